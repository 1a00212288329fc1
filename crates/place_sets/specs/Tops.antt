-- The highest cell of a piece in a rotation.
use Rattle.std.specs.Prelude.{ℕ}
use Rattle.srs.specs.declared.piece.Piece.{Piece}
use Rattle.srs.specs.declared.piece.Piece.TheVariants.{I, O}
use Rattle.srs.specs.declared.rotation.Rotation.{Rotation}
use Rattle.srs.specs.declared.rotation.Rotation.TheVariants.{Right, Reverse, Left}

-- by how many rows it lies above the pivot
abbrev pub rows_over_pivot : Piece → Rotation → ℕ
rows_over_pivot I Left = 2
rows_over_pivot I Right = 1
rows_over_pivot I _ = 0
rows_over_pivot O Right = 0
rows_over_pivot O Reverse = 0
rows_over_pivot O _ = 1
rows_over_pivot _ Reverse = 0
rows_over_pivot _ _ = 1
