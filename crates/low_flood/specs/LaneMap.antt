-- The free lane states of a rotation on a board of N lanes: a lane state is the column of a pivot and a lane.
use Rattle.std.specs.Prelude.{ℕ, pos, neg_ℤ, List, [], ◌∷◌}
use Rattle.lane_board.specs.Field.{Field, empty_field, intersection, union, difference, moved_within, rows_below}
use Rattle.srs.specs.declared.piece.Piece.{Piece}
use Rattle.srs.specs.declared.rotation.Rotation.{Rotation}
use Rattle.srs.specs.Cells.{Cell}
use Rattle.low_flood.specs.LaneShapes.{lane_cells}
use Rattle.low_flood.specs.SkyBoard.{inside_lanes}

-- those of the lane states from whose column an offset leads to a column of the well
unfoldable pub fitting : ℕ → Cell → Field → Field
fitting N offset S = intersection S (moved_within (rows_below N) N (neg_ℤ offset.0) (pos 0))

-- so for each of these offsets
unfoldable pub fitting_all : ℕ → List Cell → Field → Field
fitting_all N [] S = S
fitting_all N (offset ∷ offsets) S = fitting_all N offsets (fitting N offset S)

-- the lane states, and those from which an offset leads to a cell
unfoldable pub hit : Field → ℕ → Cell → Field → Field
hit cells N offset S = union S (moved_within cells N (neg_ℤ offset.0) (neg_ℤ offset.1))

-- so for each of these offsets
unfoldable pub hit_all : Field → ℕ → List Cell → Field → Field
hit_all cells N [] S = S
hit_all cells N (offset ∷ offsets) S = hit_all cells N offsets (hit cells N offset S)

-- the lane states of the columns that fit, but for those from which a cell of the piece is a filled one
unfoldable pub free_lanes : Piece → Rotation → ℕ → Field → Field
free_lanes piece rotation N cells =
    difference (inside_lanes piece rotation N) (hit_all cells N (lane_cells piece rotation) empty_field)

-- those of the lane states with no free one below
unfoldable pub resting_lanes : ℕ → Field → Field → Field
resting_lanes N free S = difference S (moved_within free N (pos 0) (pos 1))
