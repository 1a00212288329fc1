-- The pivots at which a field leaves a piece free.
use Rattle.std.specs.Prelude.{◌≡◌}
use Rattle.lane_board.specs.Field.{Field}
use Rattle.srs.specs.declared.piece.Piece.{Piece}
use Rattle.srs.specs.declared.rotation.Rotation.{Rotation}
use Rattle.srs.specs.Cells.{Cell}
use Rattle.well.specs.Free.{is_free_at}
use Rattle.place_sets.specs.States.{States, has_pivot}

-- a set has the states of a piece that a field leaves free, and no others
pub record IsFreeMap (F : Field) (piece : Piece) (free : States) : Type 0 where
  pub exact : (rotation : Rotation) (pivot : Cell) → is_free_at F piece rotation pivot ≡ has_pivot free rotation pivot
