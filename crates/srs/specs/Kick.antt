-- Tables of offsets, the table of the Super Rotation System, and the kicks that a table gives.
use Rattle.std.specs.Prelude.{◌≡◌, ℕ, ◌-◌, Bool, IsTrue, ◌&&◌, ◌==◌, if◌then◌else◌, pos, ◌-ℤ◌, int_le, List, [], ◌∷◌, length, slice_index_or, slice_set}
use Rattle.std.specs.List.{list_all}
use Rattle.srs.specs.declared.piece.Piece.{Piece}
use Rattle.srs.specs.declared.piece.Piece.TheVariants.{I, O}
use Rattle.srs.specs.declared.rotation.Rotation.{Rotation}
use Rattle.srs.specs.declared.rotation.Rotation.TheVariants.{Spawn, Right, Reverse, Left}
use Rattle.srs.specs.declared.offset.Offset.{Offset}
use Rattle.srs.specs.Cells.{Cell, minus}
use Rattle.srs.specs.SameCells.{cells_eq}
use Rattle.srs.specs.Piece.{all_pieces, piece_code}
use Rattle.srs.specs.Rotation.{all_rotations, rotation_index}

-- the five offsets of each piece in each rotation, in the order of the tests
abbrev pub Table : Type 0
Table = Piece → Rotation → List Cell

-- the table of the Super Rotation System; L, Z, T, J and S have the same offsets
abbrev pub srs_table : Table
srs_table I Spawn = (pos 0, pos 0) ∷ (minus 1, pos 0) ∷ (pos 2, pos 0) ∷ (minus 1, pos 0) ∷ (pos 2, pos 0) ∷ []
srs_table I Right = (minus 1, pos 0) ∷ (pos 0, pos 0) ∷ (pos 0, pos 0) ∷ (pos 0, pos 1) ∷ (pos 0, minus 2) ∷ []
srs_table I Reverse = (minus 1, pos 1) ∷ (pos 1, pos 1) ∷ (minus 2, pos 1) ∷ (pos 1, pos 0) ∷ (minus 2, pos 0) ∷ []
srs_table I Left = (pos 0, pos 1) ∷ (pos 0, pos 1) ∷ (pos 0, pos 1) ∷ (pos 0, minus 1) ∷ (pos 0, pos 2) ∷ []
srs_table O Spawn = (pos 0, pos 0) ∷ (pos 0, pos 0) ∷ (pos 0, pos 0) ∷ (pos 0, pos 0) ∷ (pos 0, pos 0) ∷ []
srs_table O Right = (pos 0, minus 1) ∷ (pos 0, minus 1) ∷ (pos 0, minus 1) ∷ (pos 0, minus 1) ∷ (pos 0, minus 1) ∷ []
srs_table O Reverse =
    (minus 1, minus 1) ∷ (minus 1, minus 1) ∷ (minus 1, minus 1) ∷ (minus 1, minus 1) ∷ (minus 1, minus 1) ∷ []
srs_table O Left = (minus 1, pos 0) ∷ (minus 1, pos 0) ∷ (minus 1, pos 0) ∷ (minus 1, pos 0) ∷ (minus 1, pos 0) ∷ []
srs_table _ Spawn = (pos 0, pos 0) ∷ (pos 0, pos 0) ∷ (pos 0, pos 0) ∷ (pos 0, pos 0) ∷ (pos 0, pos 0) ∷ []
srs_table _ Right = (pos 0, pos 0) ∷ (pos 1, pos 0) ∷ (pos 1, minus 1) ∷ (pos 0, pos 2) ∷ (pos 1, pos 2) ∷ []
srs_table _ Reverse = (pos 0, pos 0) ∷ (pos 0, pos 0) ∷ (pos 0, pos 0) ∷ (pos 0, pos 0) ∷ (pos 0, pos 0) ∷ []
srs_table _ Left = (pos 0, pos 0) ∷ (minus 1, pos 0) ∷ (minus 1, minus 1) ∷ (pos 0, pos 2) ∷ (minus 1, pos 2) ∷ []

-- the offset for a test from 1 to 5
abbrev pub offset_in : Table → Piece → Rotation → ℕ → Cell
offset_in table piece rotation test = slice_index_or (table piece rotation) (test - 1) (pos 0, pos 0)

-- what a test of the turn from one rotation to another moves the pivot by
abbrev pub kick_in : Table → Piece → Rotation → Rotation → ℕ → Cell
kick_in table piece from to test =
    let left : Cell = offset_in table piece from test in
    let reached : Cell = offset_in table piece to test in
    (left.0 -ℤ reached.0, left.1 -ℤ reached.1)

-- the kicks of the five tests of a turn, in the order in which they are tried
abbrev pub kicks_of : Table → Piece → Rotation → Rotation → List Cell
kicks_of table piece from to =
    kick_in table piece from to 1 ∷ kick_in table piece from to 2 ∷ kick_in table piece from to 3
    ∷ kick_in table piece from to 4 ∷ kick_in table piece from to 5 ∷ []

-- the offsets of one piece with one of them changed
abbrev pub piece_table_with : (Rotation → List Cell) → Rotation → ℕ → Cell → Rotation → List Cell
piece_table_with table rotation test offset r =
    if rotation_index r == rotation_index rotation then slice_set (table r) (test - 1) offset else table r

-- the table with one offset changed
abbrev pub table_with : Table → Piece → Rotation → ℕ → Cell → Table
table_with table piece rotation test offset p =
    if piece_code p == piece_code piece then piece_table_with (table p) rotation test offset else table p

-- whether the offsets of one piece are the same
abbrev pub piece_tables_eq : (Rotation → List Cell) → (Rotation → List Cell) → Bool
piece_tables_eq table others = list_all (λ rotation. cells_eq (table rotation) (others rotation)) all_rotations

-- whether two tables are the same
abbrev pub table_eq : Table → Table → Bool
table_eq table other = list_all (λ piece. piece_tables_eq (table piece) (other piece)) all_pieces

-- columns and rows of an offset
abbrev pub pair_of : Offset → Cell
pair_of offset = (offset.dx, offset.dy)

-- at most three columns and three rows
abbrev pub is_small_move : Cell → Bool
is_small_move move =
    int_le (minus 3) move.0 && int_le move.0 (pos 3) && int_le (minus 3) move.1 && int_le move.1 (pos 3)

-- the same of an offset
abbrev pub is_small : Offset → Bool
is_small offset = is_small_move (pair_of offset)

-- each piece has in each rotation five offsets, each of at most three columns and three rows
pub record IsSmallTable (table : Table) : Type 0 where
  pub five : (piece : Piece) (rotation : Rotation) → length (table piece rotation) ≡ 5
  pub small : (piece : Piece) (rotation : Rotation) → IsTrue (list_all is_small_move (table piece rotation))
