-- The cells of a piece in a rotation: the pivot moved by the four offsets of its shape, as the Super Rotation System
-- has them.
use Rattle.std.specs.Prelude.{ℕ, ◌≤◌, Bool, false, ◌&&◌, ℤ, pos, ◌+ℤ◌, neg_ℤ, int_le, nat_le, map, List, [], ◌∷◌}
use Rattle.std.specs.List.{list_all}
use Rattle.srs.specs.declared.piece.Piece.{Piece}
use Rattle.srs.specs.declared.piece.Piece.TheVariants.{I, L, O, Z, T, J, S}
use Rattle.srs.specs.declared.rotation.Rotation.{Rotation}
use Rattle.srs.specs.declared.rotation.Rotation.TheVariants.{Spawn, Right, Reverse, Left}
use Rattle.srs.specs.declared.placement.Placement.{Placement}

-- a column, counted to the right, and a row, counted upwards; also a move by so many columns and rows
abbrev pub Cell : Type 0
Cell = ℤ × ℤ

-- a number below 0
abbrev pub minus : ℕ → ℤ
minus n = neg_ℤ (pos n)

-- the offsets of the four cells from the pivot
abbrev pub shape : Piece → Rotation → List Cell
shape I Spawn = (minus 1, pos 0) ∷ (pos 0, pos 0) ∷ (pos 1, pos 0) ∷ (pos 2, pos 0) ∷ []
shape I Right = (pos 0, pos 1) ∷ (pos 0, pos 0) ∷ (pos 0, minus 1) ∷ (pos 0, minus 2) ∷ []
shape I Reverse = (pos 1, pos 0) ∷ (pos 0, pos 0) ∷ (minus 1, pos 0) ∷ (minus 2, pos 0) ∷ []
shape I Left = (pos 0, minus 1) ∷ (pos 0, pos 0) ∷ (pos 0, pos 1) ∷ (pos 0, pos 2) ∷ []
shape L Spawn = (minus 1, pos 0) ∷ (pos 0, pos 0) ∷ (pos 1, pos 0) ∷ (pos 1, pos 1) ∷ []
shape L Right = (pos 0, pos 1) ∷ (pos 0, pos 0) ∷ (pos 0, minus 1) ∷ (pos 1, minus 1) ∷ []
shape L Reverse = (pos 1, pos 0) ∷ (pos 0, pos 0) ∷ (minus 1, pos 0) ∷ (minus 1, minus 1) ∷ []
shape L Left = (pos 0, minus 1) ∷ (pos 0, pos 0) ∷ (pos 0, pos 1) ∷ (minus 1, pos 1) ∷ []
shape O Spawn = (pos 0, pos 0) ∷ (pos 1, pos 0) ∷ (pos 0, pos 1) ∷ (pos 1, pos 1) ∷ []
shape O Right = (pos 0, pos 0) ∷ (pos 0, minus 1) ∷ (pos 1, pos 0) ∷ (pos 1, minus 1) ∷ []
shape O Reverse = (pos 0, pos 0) ∷ (minus 1, pos 0) ∷ (pos 0, minus 1) ∷ (minus 1, minus 1) ∷ []
shape O Left = (pos 0, pos 0) ∷ (pos 0, pos 1) ∷ (minus 1, pos 0) ∷ (minus 1, pos 1) ∷ []
shape Z Spawn = (minus 1, pos 1) ∷ (pos 0, pos 1) ∷ (pos 0, pos 0) ∷ (pos 1, pos 0) ∷ []
shape Z Right = (pos 1, pos 1) ∷ (pos 1, pos 0) ∷ (pos 0, pos 0) ∷ (pos 0, minus 1) ∷ []
shape Z Reverse = (pos 1, minus 1) ∷ (pos 0, minus 1) ∷ (pos 0, pos 0) ∷ (minus 1, pos 0) ∷ []
shape Z Left = (minus 1, minus 1) ∷ (minus 1, pos 0) ∷ (pos 0, pos 0) ∷ (pos 0, pos 1) ∷ []
shape T Spawn = (minus 1, pos 0) ∷ (pos 0, pos 0) ∷ (pos 1, pos 0) ∷ (pos 0, pos 1) ∷ []
shape T Right = (pos 0, pos 1) ∷ (pos 0, pos 0) ∷ (pos 0, minus 1) ∷ (pos 1, pos 0) ∷ []
shape T Reverse = (pos 1, pos 0) ∷ (pos 0, pos 0) ∷ (minus 1, pos 0) ∷ (pos 0, minus 1) ∷ []
shape T Left = (pos 0, minus 1) ∷ (pos 0, pos 0) ∷ (pos 0, pos 1) ∷ (minus 1, pos 0) ∷ []
shape J Spawn = (minus 1, pos 1) ∷ (minus 1, pos 0) ∷ (pos 0, pos 0) ∷ (pos 1, pos 0) ∷ []
shape J Right = (pos 1, pos 1) ∷ (pos 0, pos 1) ∷ (pos 0, pos 0) ∷ (pos 0, minus 1) ∷ []
shape J Reverse = (pos 1, minus 1) ∷ (pos 1, pos 0) ∷ (pos 0, pos 0) ∷ (minus 1, pos 0) ∷ []
shape J Left = (minus 1, minus 1) ∷ (pos 0, minus 1) ∷ (pos 0, pos 0) ∷ (pos 0, pos 1) ∷ []
shape S Spawn = (minus 1, pos 0) ∷ (pos 0, pos 0) ∷ (pos 0, pos 1) ∷ (pos 1, pos 1) ∷ []
shape S Right = (pos 0, pos 1) ∷ (pos 0, pos 0) ∷ (pos 1, pos 0) ∷ (pos 1, minus 1) ∷ []
shape S Reverse = (pos 1, pos 0) ∷ (pos 0, pos 0) ∷ (pos 0, minus 1) ∷ (minus 1, minus 1) ∷ []
shape S Left = (pos 0, minus 1) ∷ (pos 0, pos 0) ∷ (minus 1, pos 0) ∷ (minus 1, pos 1) ∷ []

-- a quarter turn clockwise about the pivot
abbrev pub turned_clockwise : Cell → Cell
turned_clockwise offset = (offset.1, neg_ℤ offset.0)

-- a cell moved by a number of columns and rows
unfoldable pub moved : Cell → Cell → Cell
moved cell move = (cell.0 +ℤ move.0, cell.1 +ℤ move.1)

-- the four cells of a piece in a rotation with its pivot at a cell
abbrev pub cells_at : Piece → Rotation → Cell → List Cell
cells_at piece rotation pivot = map (moved pivot) (shape piece rotation)

-- the cell of the pivot
abbrev pub pivot_of : Placement → Cell
pivot_of placement = (pos placement.x, pos placement.y)

-- the four cells of a placement
abbrev pub cells_of : Placement → List Cell
cells_of placement = cells_at placement.piece placement.rotation (pivot_of placement)

-- the well has the columns 0 to 9 and the rows 0 to 22
abbrev pub in_well : Cell → Bool
in_well (pos x, pos y) = nat_le x 9 && nat_le y 22
in_well _ = false

-- all four cells lie in the well
abbrev pub is_inside_of : Placement → Bool
is_inside_of placement = list_all in_well (cells_of placement)

-- the pivot lies in the well
pub record HasPivotInWell (placement : Placement) : Type 0 where
  pub in_columns : placement.x ≤ 9
  pub in_rows : placement.y ≤ 22

-- at most two columns and two rows
abbrev pub is_near : Cell → Bool
is_near move = int_le (minus 2) move.0 && int_le move.0 (pos 2) && int_le (minus 2) move.1 && int_le move.1 (pos 2)
