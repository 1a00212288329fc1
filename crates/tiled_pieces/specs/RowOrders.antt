-- Orders of rows. A piece that has no cell in a row between two of its rows is put once that row is gone, and its own
-- rows go after it is put. So the first of these rows goes before the others.
use Rattle.std.specs.Prelude.{ℕ, ◌≡◌, ◌<◌, true, List, All, map}
use Rattle.lane_board.specs.Field.{Field}
use Rattle.prune.specs.Tiling.{Supply, Tiling}
use Rattle.empty_cells.specs.Empties.{all_but}
use Rattle.tiled_pieces.specs.declared.listed.ListedTiling.{ListedTiling}
use Rattle.tiled_pieces.specs.TilingLists.{HasParts, LaidPiece, laid_part}

-- a piece has a cell in a row
pub record HasRow (laid : LaidPiece) (row : ℕ) : Type 0 where
  pub x : ℕ
  pub there : laid.cells x row ≡ true

-- a row between two rows of a piece, in which it has no cell
pub record IsGap (laid : LaidPiece) (row : ℕ) : Type 0 where
  pub below : ℕ
  pub above : ℕ
  pub lower : HasRow laid below
  pub upper : HasRow laid above
  pub over : below < row
  pub under : row < above
  pub none : HasRow laid row → ⊥

-- each gap of a piece has its turn before each of the piece's rows
pub record HasTurns (turn : ℕ → ℕ) (laid : LaidPiece) : Type 0 where
  pub before : (gap row : ℕ) → IsGap laid gap → HasRow laid row → turn gap < turn row

-- the rows can go one after the other so that this holds of all the pieces
pub record CanGo (pieces : List LaidPiece) : Type 0 where
  pub turn : ℕ → ℕ
  pub each : All (HasTurns turn) pieces

-- each tiling of a set of cells by a supply is listed, if its rows can go so
pub record ListsOrdered (E : Field) (supply : Supply) (list : List ListedTiling) : Type 0 where
  pub all : (t : Tiling (all_but E) 8 supply) → CanGo (map laid_part t.parts) → HasParts list t.parts
