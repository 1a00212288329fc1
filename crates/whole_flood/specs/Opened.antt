-- The pivots at which a piece lies on open cells alone.
use Rattle.std.specs.Prelude.{◌≡◌, ℕ, List, [], ◌∷◌, neg_ℤ}
use Rattle.lane_board.specs.Field.{Field, has_cell, intersection, moved_within}
use Rattle.srs.specs.declared.piece.Piece.{Piece}
use Rattle.srs.specs.declared.rotation.Rotation.{Rotation}
use Rattle.srs.specs.Cells.{Cell}
use Rattle.well.specs.Free.{is_free_at}

-- those of the pivots that have an open cell at an offset
unfoldable pub opened : Field → ℕ → Cell → Field → Field
opened cells N offset S = intersection S (moved_within cells N (neg_ℤ offset.0) (neg_ℤ offset.1))

-- those that have one at each of the offsets
unfoldable pub opened_at : Field → ℕ → List Cell → Field → Field
opened_at cells N [] S = S
opened_at cells N (offset ∷ offsets) S = opened_at cells N offsets (opened cells N offset S)

-- a board has the pivots at which the field leaves the piece free in the rotation, and no others
pub record AreFreePivots (F : Field) (piece : Piece) (rotation : Rotation) (pivots : Field) : Type 0 where
  pub exact : (pivot : Cell) → is_free_at F piece rotation pivot ≡ has_cell pivots pivot.0 pivot.1
