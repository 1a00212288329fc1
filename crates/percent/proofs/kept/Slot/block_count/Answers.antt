-- The blocks of both sets.
use Rattle.std.proofs.Common.{arith}
use Rattle.percent.specs.Kept.{blocks_of}
use Rattle.percent.proofs.kept.Slot.block_count.Goals as goal

pub returns : goal.returns
unfolding blocks_of
returns c = grind (arith, c.block_count.ensures.value, c.block_count-2.ensures.value)
