use Rattle.percent.proofs.FittingLemmas.{Covering}
use Rattle.percent.proofs.fitting.greatest_counts.Given as goal

abbrev pub invariant-loop-hand : goal.invariant-loop-hand
invariant-loop-hand l = Covering l.hands l.counts l.pieces l.hand-index
