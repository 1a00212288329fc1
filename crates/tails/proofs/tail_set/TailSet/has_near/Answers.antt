-- The block with the tail's key has its bit.
use Rattle.std.proofs.Common.{◌/◌, ◌%◌, ap, ◌∙◌}
use Rattle.tails.specs.Blocks.{have_parts}
use Rattle.tails.specs.TailSets.{has}
use Rattle.tails.proofs.tail_set.TailSet.has_near.Goals as goal

pub returns : goal.returns
unfolding has
returns c =
    c.has_bit.ensures ∙ c.bits_at.ensures (c.args.tail % 64)
    ∙ ap (λ l. have_parts l (c.args.tail / 64) (c.args.tail % 64)) c.as_slice.ensures.value
