use Rattle.percent.proofs.BuildingLemmas.{AreCountsBefore}
use Rattle.percent.proofs.narrowing.counts_of_each.Given as goal

abbrev pub invariant-loop-hand : goal.invariant-loop-hand
invariant-loop-hand l = AreCountsBefore l.left l.hands l.counts.items l.hand-index
