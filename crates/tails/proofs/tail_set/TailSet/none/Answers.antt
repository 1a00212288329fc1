-- A set with no block.
use Rattle.std.proofs.Common.{length, ap, ◌∙◌, ◌/◌, ◌%◌}
use Rattle.tails.specs.Blocks.{have_parts}
use Rattle.tails.specs.TailSets.{block_count, has}
use Rattle.tails.proofs.OrderLemmas.{keys_rise-none, each-none}
use Rattle.tails.proofs.PartLemmas.{parts-none}
use Rattle.tails.proofs.tail_set.TailSet.none.Goals as goal

pub invariant_of-result : goal.invariant_of-result
invariant_of-result c = record {
  rises = keys_rise-none _ c.new.ensures.items;
  each = each-none _ c.new.ensures.items;
}

pub returns-clause-none : goal.returns-clause-none
unfolding has
returns-clause-none c = λ tail. ap (λ l. have_parts l (tail / 64) (tail % 64)) c.new.ensures.items ∙ parts-none (tail / 64) (tail % 64)

pub returns-clause-size : goal.returns-clause-size
unfolding block_count
returns-clause-size c = ap length c.new.ensures.items
