-- Orders of rows as numbers, and pieces that are put in such an order.
use Rattle.std.specs.Prelude.{ℕ, ◌≡◌, ◌+◌, ◌*◌, ◌<◌, Bool, true, IsTrue, List, All, ◌++◌, map}
use Rattle.lane_board.specs.Field.{Field}
use Rattle.lane_board.specs.Lanes.{has_bit}
use Rattle.prune.specs.Tiling.{Supply, Tiling}
use Rattle.empty_cells.specs.Empties.{all_but}
use Rattle.tiled_pieces.specs.declared.listed.ListedTiling.{ListedTiling}
use Rattle.tiled_pieces.specs.declared.row_order.RowOrder.{RowOrder}
use Rattle.tiled_pieces.specs.TilingLists.{HasParts, LaidPiece, laid_part}
use Rattle.tiled_pieces.specs.RowOrders.{CanGo, HasTurns}

-- bit 8 * z + r says that row z has its turn before row r
pub record Agrees (turn : ℕ → ℕ) (before : ℕ) : Type 0 where
  pub each : (z r : ℕ) → z < 8 → r < 8 → has_bit before (8 * z + r) ≡ true → turn z < turn r

-- a row has its turn before each of some rows
pub record GoesBefore (turn : ℕ → ℕ) (z rows : ℕ) : Type 0 where
  pub each : (r : ℕ) → r < 8 → has_bit rows r ≡ true → turn z < turn r

-- each of some rows does
pub record GoBefore (turn : ℕ → ℕ) (gaps rows : ℕ) : Type 0 where
  pub each : (z : ℕ) → z < 8 → has_bit gaps z ≡ true → GoesBefore turn z rows

-- rows can go so that it agrees with an order and with further pieces
pub record CanFollow (order : RowOrder) (pieces : List LaidPiece) : Type 0 where
  pub turn : ℕ → ℕ
  pub agrees : Agrees turn order.before
  pub each : All (HasTurns turn) pieces

-- if the order is kept, they can
abbrev pub Follows : RowOrder → List LaidPiece → Type 0
Follows order pieces = IsTrue order.is_kept → CanFollow order pieces

-- what comes after the pieces of a path can follow
pub record GoesFrom (order : RowOrder) (path found : List LaidPiece) : Type 0 where
  pub follows : (more : List LaidPiece) → found ≡ path ++ more → Follows order more

-- a tiling of a set of cells by a supply whose pieces can follow
pub record Fills (order : RowOrder) (supply : Supply) (E : Field) : Type 0 where
  pub tiling : Tiling (all_but E) 8 supply
  pub follows : Follows order (map laid_part tiling.parts)

-- each tiling is listed, or each whose rows can go one after the other
pub record ListsThose (is_ordered : Bool) (E : Field) (supply : Supply) (list : List ListedTiling) : Type 0 where
  pub all : (t : Tiling (all_but E) 8 supply) → (IsTrue is_ordered → CanGo (map laid_part t.parts)) → HasParts list t.parts
