-- Lane states as canonical placements.
use Rattle.std.specs.Prelude.{◌≡◌, ℕ, Bool, nat_lt, pos, neg_ℤ, if◌then◌else◌}
use Rattle.lane_board.specs.Field.{Field, empty_field, intersection, moved_within, rows_below}
use Rattle.srs.specs.declared.piece.Piece.{Piece}
use Rattle.srs.specs.declared.rotation.Rotation.{Rotation}
use Rattle.srs.specs.Canonical.{rotation_count}
use Rattle.srs.specs.Cells.{shape}
use Rattle.srs.specs.Rotation.{rotation_index}
use Rattle.moves.specs.Lanes.{lowest}
use Rattle.place_sets.specs.States.{States}
use Rattle.low_flood.specs.LaneMap.{free_lanes, resting_lanes}
use Rattle.low_flood.specs.SkyBoard.{sky_board}

-- the pivots of the lane states
unfoldable pub lane_pivots : Piece → Rotation → Field → Field
lane_pivots piece rotation S = moved_within (intersection S (rows_below 24)) 24 (pos 0)
    (neg_ℤ (lowest (shape piece rotation)))

-- whether the placements of a rotation are canonical
abbrev pub has_own_cells : Piece → Rotation → Bool
has_own_cells piece rotation = nat_lt (rotation_index rotation) (rotation_count piece)

-- the canonical placements in a rotation that rest under an open sky
unfoldable pub hard_board : Piece → ℕ → Field → Rotation → Field
hard_board piece N cells rotation =
    let free : Field = free_lanes piece rotation N cells in
    if has_own_cells piece rotation
    then lane_pivots piece rotation (resting_lanes N free (sky_board piece rotation N free))
    else empty_field

-- T has the states of S with the pivot below this row
pub record IsCut (row : ℕ) (S T : States) : Type 0 where
  pub each : (rotation : Rotation) → T rotation ≡ intersection (S rotation) (rows_below row)
