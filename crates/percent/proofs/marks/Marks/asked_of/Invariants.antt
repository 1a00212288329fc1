use Rattle.std.proofs.Common.{◌-◌, length}
use Rattle.percent.proofs.MarkLemmas.{AreIndexesBefore}
use Rattle.percent.proofs.marks.Marks.asked_of.Given as goal

abbrev pub invariant-loop-index : goal.invariant-loop-index
invariant-loop-index l = AreIndexesBefore l.self.known.items l.asked.piece l.asked.left l.hands.items l.indexes.items l.index

abbrev pub decreases-loop-next : goal.decreases-loop-next
decreases-loop-next l = length l.asked.tails.items - l.next
