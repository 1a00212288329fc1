-- The state is free, and its rest is that of the first.
use Rattle.std.proofs.Common.{◌≡◌, true}
use Rattle.well.specs.Free.{is_free}
use Rattle.well.specs.Well.{filled}
use Rattle.moves.specs.Rest.{rest_of}
use Rattle.moves.proofs.rest.fall.Given as goal

abbrev pub invariant-loop-rest : goal.invariant-loop-rest
invariant-loop-rest l = (is_free (filled l.well) l.rest ≡ true) × (rest_of (filled l.well) l.rest ≡ rest_of (filled l.well) l.state)

abbrev pub decreases-loop-rest : goal.decreases-loop-rest
decreases-loop-rest l = l.rest.y
