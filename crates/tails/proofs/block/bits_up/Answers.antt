-- A shift to the left.
use Rattle.tails.proofs.BitRuns.{has_bit-up, has_bit-up_past}
use Rattle.tails.proofs.block.bits_up.Goals as goal

pub returns-then-by-lt64 : goal.returns-then-by-lt64
returns-then-by-lt64 c = λ k. has_bit-up c.args.bits c.args.by k

pub returns-else-by-lt64 : goal.returns-else-by-lt64
returns-else-by-lt64 c = λ k. has_bit-up_past c.args.bits c.args.by k c.if-by-lt64.false
