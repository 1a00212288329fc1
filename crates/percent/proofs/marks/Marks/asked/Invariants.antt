use Rattle.percent.proofs.MarkLemmas.{AreIndexesBefore}
use Rattle.percent.proofs.marks.Marks.asked.Given as goal

abbrev pub invariant-loop-hand : goal.invariant-loop-hand
invariant-loop-hand l = AreIndexesBefore l.self.known.items l.piece l.left l.hand-items l.indexes.items l.hand-index
