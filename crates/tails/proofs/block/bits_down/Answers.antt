-- A shift to the right.
use Rattle.tails.proofs.BitRuns.{has_bit-down, has_bit-down_past}
use Rattle.tails.proofs.block.bits_down.Goals as goal

pub returns-then-by-lt64 : goal.returns-then-by-lt64
returns-then-by-lt64 c = λ k. has_bit-down c.args.bits c.args.by k

pub returns-else-by-lt64 : goal.returns-else-by-lt64
returns-else-by-lt64 c = λ k. has_bit-down_past c.args.bits c.args.by k c.ranges.bits.fits c.if-by-lt64.false
