-- All bits, or a power of two less one.
use Rattle.tails.proofs.BitRuns.{has_bit-all, has_bit-below}
use Rattle.tails.proofs.block.bits_below.Goals as goal

pub returns-then-count-lt64 : goal.returns-then-count-lt64
returns-then-count-lt64 c = λ k. has_bit-below c.args.count k c.if-count-lt64.true

pub returns-else-count-lt64 : goal.returns-else-count-lt64
returns-else-count-lt64 c = λ k. has_bit-all c.args.count k c.if-count-lt64.false
