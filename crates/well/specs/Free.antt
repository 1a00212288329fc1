-- Placements that a field leaves free.
use Rattle.std.specs.Prelude.{Bool, false, not, ◌&&◌, pos}
use Rattle.std.specs.List.{list_all}
use Rattle.lane_board.specs.Field.{Field}
use Rattle.srs.specs.declared.piece.Piece.{Piece}
use Rattle.srs.specs.declared.rotation.Rotation.{Rotation}
use Rattle.srs.specs.declared.placement.Placement.{Placement}
use Rattle.srs.specs.Cells.{Cell, cells_at, pivot_of, in_well}

-- a cell of the well that the field does not have
unfoldable pub is_open : Field → Cell → Bool
is_open F (pos x, pos y) = in_well (pos x, pos y) && not (F x y)
is_open F _ = false

-- a piece in a rotation with its pivot at a cell lies inside the well and on no filled cell
unfoldable pub is_free_at : Field → Piece → Rotation → Cell → Bool
is_free_at F piece rotation pivot = list_all (is_open F) (cells_at piece rotation pivot)

abbrev pub is_free : Field → Placement → Bool
is_free F placement = is_free_at F placement.piece placement.rotation (pivot_of placement)
