use Rattle.tails.proofs.HandLists.{AreHandsBefore}
use Rattle.tails.proofs.tree.TailTree.hands.Given as goal

abbrev pub invariant-loop-tail : goal.invariant-loop-tail
invariant-loop-tail l = AreHandsBefore l.self l.tails l.hands.items l.tail-index
