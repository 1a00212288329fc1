-- Resting states as canonical placements.
use Rattle.std.specs.Prelude.{ℕ, fold}
use Rattle.lane_board.specs.Field.{union, moved_within}
use Rattle.srs.specs.declared.piece.Piece.{Piece}
use Rattle.srs.specs.declared.rotation.Rotation.{Rotation}
use Rattle.srs.specs.Canonical.{canonical_rotation, canonical_move}
use Rattle.srs.specs.Rotation.{all_rotations}
use Rattle.place_sets.specs.States.{States, states_with, no_states}

-- the set and the canonical placements of the resting states in one rotation
unfoldable pub folded_with : Piece → ℕ → States → Rotation → States → States
folded_with piece N resting rotation S =
    let to : Rotation = canonical_rotation piece rotation in
    states_with S to (union (S to) (moved_within (resting rotation) N (canonical_move piece rotation).0
    (canonical_move piece rotation).1))

-- the canonical placements of the resting states
unfoldable pub folded : Piece → ℕ → States → States
folded piece N resting = fold (λ S rotation. folded_with piece N resting rotation S) no_states all_rotations
