use Rattle.tails.proofs.NumberedTails.{ArePushed}
use Rattle.tails.proofs.tail_set.push_tails.Given as goal

abbrev pub invariant-loop-bits : goal.invariant-loop-bits
invariant-loop-bits l = ArePushed l.initial.numbers.items l.numbers.items l.fn.block l.bits

abbrev pub decreases-loop-bits : goal.decreases-loop-bits
decreases-loop-bits l = l.bits
