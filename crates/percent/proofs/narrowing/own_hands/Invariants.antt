use Rattle.std.proofs.Common.{ℕ}
use Rattle.percent.specs.Building.{AreCountsOf}
use Rattle.percent.proofs.BuildingLemmas.{OwnSoFar}
use Rattle.percent.proofs.narrowing.own_hands.Given as goal

abbrev pub invariant-loop-index : goal.invariant-loop-index
invariant-loop-index l = (left : ℕ) → AreCountsOf left l.hands l.counts → OwnSoFar l.wanted left l.hands l.own.items l.indexes.items l.index
