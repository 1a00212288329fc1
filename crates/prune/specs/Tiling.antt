-- Generalized pieces, and tilings of the empty cells of the lowest rows by them.
use Rattle.std.specs.Prelude.{◌≡◌, ℕ, ◌-◌, ◌<◌, ◌≤◌, ℤ, pos, ◌+ℤ◌, int_lt, Bool, IsTrue, false, not, ◌&&◌, ◌==◌, if◌then◌else◌, List, map, All, count_by, slice_index}
use Rattle.std.specs.List.{flat_map}
use Rattle.lane_board.specs.Field.{Field, rows_below}
use Rattle.srs.specs.declared.piece.Piece.{Piece}
use Rattle.srs.specs.declared.rotation.Rotation.{Rotation}
use Rattle.srs.specs.Cells.{Cell, shape}
use Rattle.srs.specs.Piece.{piece_code}
use Rattle.srs.specs.SameCells.{cell_eq, is_among}

-- some cells, and the kind of piece that they are said to be
pub record Part : Type 0 where
  pub piece : Piece
  pub cells : List Cell

-- a cell in its column, moved so many columns to the right, and in the row to which its row is sent
unfoldable pub sent : ℤ → (ℤ → ℕ) → Cell → Cell
sent move row cell = (cell.0 +ℤ move, pos (row cell.1))

-- A generalized piece: the shape of the piece in some rotation, its columns moved together, its rows, from the lowest
-- up, sent to any rows that rise strictly.
pub record IsGeneralized (part : Part) : Type 0 where
  pub rotation : Rotation
  pub move : ℤ
  pub row : ℤ → ℕ
  pub rising : (c d : Cell) → IsTrue (is_among (shape part.piece rotation) c) →
      IsTrue (is_among (shape part.piece rotation) d) → IsTrue (int_lt c.1 d.1) → row c.1 < row d.1
  pub cells : part.cells ≡ map (sent move row) (shape part.piece rotation)

-- an empty cell of rows 0 to rows - 1, in columns 0 to 9
unfoldable pub is_empty_below : Field → ℕ → Cell → Bool
is_empty_below F rows (pos x, pos y) = rows_below rows x y && not (F x y)
is_empty_below F rows _ = false

-- how often a cell stands in all the parts together
unfoldable pub covers : List Part → Cell → ℕ
covers parts cell = count_by (λ c. cell_eq c cell) (flat_map (λ part. part.cells) parts)

-- how many of the parts are of a kind
abbrev pub parts_of : List Part → Piece → ℕ
parts_of parts piece = count_by (λ part. piece_code part.piece == piece_code piece) parts

-- how many pieces of each kind there are
abbrev pub Supply : Type 0
Supply = Piece → ℕ

-- The empty cells of rows 0 to rows - 1 are the disjoint union of generalized pieces, with at most so many of each
-- kind: each of these cells stands in one part and once there, and no other cell in any.
pub record Tiling (F : Field) (rows : ℕ) (supply : Supply) : Type 0 where
  pub parts : List Part
  pub generalized : All IsGeneralized parts
  pub covered : (cell : Cell) → covers parts cell ≡ (if is_empty_below F rows cell then 1 else 0)
  pub supplied : (piece : Piece) → parts_of parts piece ≤ supply piece

-- the supply whose entries stand in the order of piece codes
unfoldable pub supply_in : List ℕ → Supply
supply_in entries piece = slice_index entries (piece_code piece - 1)
