use Rattle.percent.proofs.FittingLemmas.{Tallying}
use Rattle.percent.proofs.fitting.counts_of.Given as goal

abbrev pub invariant-loop : goal.invariant-loop
invariant-loop l = Tallying l.hand l.pieces l.counter l.counts l.rest
