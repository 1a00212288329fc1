-- The same blocks.
use Rattle.std.proofs.Common.{ap, ◌∙◌, ◌/◌, ◌%◌}
use Rattle.tails.specs.Blocks.{have_parts}
use Rattle.tails.specs.TailSets.{has}
use Rattle.tails.proofs.tail_set.TailSet.copied.Goals as goal

pub returns : goal.returns
unfolding has
returns c = λ tail. ap (λ l. have_parts l (tail / 64) (tail % 64)) (c.in_ok-from_slice.ensures.items ∙ c.as_slice.ensures.value)
