use Rattle.hands.specs.Weights.{AreNoted}
use Rattle.hands.proofs.allowing.sums_of.Given as goal

abbrev pub invariant-loop-index : goal.invariant-loop-index
invariant-loop-index l = AreNoted l.hold l.left l.hands l.weights l.size l.allowed l.open l.index
