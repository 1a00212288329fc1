use Rattle.std.proofs.Common.{[]}
use Rattle.tails.proofs.MergeSteps.{Merged}
use Rattle.tails.proofs.tail_set.TailSet.of.Given as goal

abbrev pub invariant-loop-block : goal.invariant-loop-block
invariant-loop-block l = Merged l.tails l.block-items [] l.block-index 0
