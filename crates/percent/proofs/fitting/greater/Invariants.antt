use Rattle.percent.proofs.FittingLemmas.{Raising}
use Rattle.percent.proofs.fitting.greater.Given as goal

abbrev pub invariant-loop-code : goal.invariant-loop-code
invariant-loop-code l = Raising l.a l.b l.counts l.code
