-- A set with no block, with room.
use Rattle.std.proofs.Common.{ap, ◌∙◌, ◌/◌, ◌%◌}
use Rattle.tails.specs.Blocks.{have_parts}
use Rattle.tails.specs.TailSets.{has}
use Rattle.tails.proofs.OrderLemmas.{keys_rise-none, each-none}
use Rattle.tails.proofs.PartLemmas.{parts-none}
use Rattle.tails.proofs.tail_set.TailSet.with_room.Goals as goal

pub invariant_of-result : goal.invariant_of-result
invariant_of-result c = record {
  rises = keys_rise-none _ c.in_ok-with_capacity.ensures.items;
  each = each-none _ c.in_ok-with_capacity.ensures.items;
}

pub returns : goal.returns
unfolding has
returns c = λ tail. ap (λ l. have_parts l (tail / 64) (tail % 64)) c.in_ok-with_capacity.ensures.items ∙ parts-none (tail / 64) (tail % 64)
