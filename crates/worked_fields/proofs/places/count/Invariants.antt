-- The last placement is of the piece whose placements are held.
use Rattle.std.proofs.Common.{◌≡◌}
use Rattle.std.specs.Prelude.{IfSome}
use Rattle.place_sets.specs.Places.{piece_of}
use Rattle.worked_fields.proofs.places.count.Given as goal

abbrev pub invariant-loop-number : goal.invariant-loop-number
invariant-loop-number l = IfSome l.last (λ q. q.piece ≡ piece_of l.held)
