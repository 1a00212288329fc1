-- The cells of a piece in a rotation, from the column of its pivot and its lane, which is the row of its lowest cell.
use Rattle.std.specs.Prelude.{Bool, ◌&&◌, int_le, pos, ◌-ℤ◌, List, map}
use Rattle.srs.specs.declared.piece.Piece.{Piece}
use Rattle.srs.specs.declared.rotation.Rotation.{Rotation}
use Rattle.srs.specs.Cells.{Cell, minus, shape}
use Rattle.moves.specs.Lanes.{lowest}

-- an offset from the pivot as one from the lane
abbrev pub from_lane : Piece → Rotation → Cell → Cell
from_lane piece rotation cell = (cell.0, cell.1 -ℤ lowest (shape piece rotation))

abbrev pub lane_cells : Piece → Rotation → List Cell
lane_cells piece rotation = map (from_lane piece rotation) (shape piece rotation)

-- at most two columns to either side, and no more than three rows up
abbrev pub is_near_lane : Cell → Bool
is_near_lane cell = int_le (minus 2) cell.0 && int_le cell.0 (pos 2) && int_le (pos 0) cell.1 && int_le cell.1 (pos 3)
