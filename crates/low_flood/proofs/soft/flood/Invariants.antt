-- Rounds from the spread skies led here, and each time fewer lane states are missing.
use Rattle.place_sets.specs.States.{states_of}
use Rattle.place_sets.proofs.CallerLemmas.{missing}
use Rattle.low_flood.proofs.SoftLemmas.{IsSoFar}
use Rattle.low_flood.proofs.soft.flood.Given as goal

abbrev pub invariant-rounds : goal.invariant-rounds
invariant-rounds g l = IsSoFar l.piece g.row.N (states_of l.free) (states_of l.reached)

abbrev pub decreases-rounds : goal.decreases-rounds
decreases-rounds g l = missing g.row.N (states_of l.reached)
