-- Neither set has a tail.
use Rattle.std.proofs.Common.{arith}
use Rattle.percent.specs.Kept.{blocks_of}
use Rattle.percent.proofs.kept.SlotEntry.nothing.Goals as goal

pub returns : goal.returns
unfolding blocks_of
returns c = omega (arith, c.none.ensures.size, c.none-2.ensures.size)
