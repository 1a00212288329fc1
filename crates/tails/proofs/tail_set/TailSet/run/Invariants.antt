use Rattle.tails.proofs.RunSteps.{HasFront}
use Rattle.tails.proofs.tail_set.TailSet.run.Given as goal

abbrev pub invariant-loop-index : goal.invariant-loop-index
invariant-loop-index l = HasFront l.tails l.first l.count l.index
