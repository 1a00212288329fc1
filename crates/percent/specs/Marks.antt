-- Marks: ordered tilings of some cells by some pieces, and their indexes.
use Rattle.std.specs.Prelude.{◌≡◌, ℕ, ◌+◌, ◌<◌, false, List, Option, Some, None, IfSome, length, slice_get, slice_index, slice_index_or}
use Rattle.srs.specs.declared.piece.Piece.{Piece}
use Rattle.lane_board.specs.Field.{Field}
use Rattle.lane_board.specs.Lanes.{has_bit}
use Rattle.srs.specs.declared.placement.Placement.{Placement}
use Rattle.empty_cells.specs.SentCells.{sent_cells}
use Rattle.tiled_pieces.specs.RowOrders.{ListsOrdered}
use Rattle.tiled_pieces.specs.TilingLists.{SomeHas}
use Rattle.percent.specs.declared.marks.Mark.{Mark}
use Rattle.percent.specs.Counts.{codes_with, supply_by}
use Rattle.percent.specs.Fitting.{codes_in}

-- Each tiling of the cells by so many pieces is listed, if its rows can go one before the other. As a fact without a
-- choice of its own: it can't be refuted.
pub record IsTrueMark (E : Field) (mark : Mark) : Type 0 where
  pub each : (ListsOrdered E (supply_by mark.counts) mark.tilings.tilings.items → ⊥) → ⊥

-- these counts are those of the pieces of a hand
pub record HasCounts (counts : List ℕ) (left hand : ℕ) : Type 0 where
  pub size : length counts ≡ 8
  pub each : (code : ℕ) → code < 8 → slice_index counts code ≡ codes_in (left + 1) hand code

-- the mark at this index is of pieces with these counts
pub record HasMarkAt (known : List Mark) (index : ℕ) (counts : List ℕ) : Type 0 where
  pub mark : Mark
  pub there : slice_get known index ≡ Some mark
  pub few : index < 64
  pub same : mark.counts ≡ counts

-- a placement stands in no tiling of the marks whose bits are not set
pub record IsStanding (known : List Mark) (rows : List ℕ) (q : Placement) (standing : ℕ) : Type 0 where
  pub none : (k : ℕ) → k < 64 → has_bit standing k ≡ false → (mark : Mark) → slice_get known k ≡ Some mark
      → SomeHas mark.tilings.tilings.items (record { piece = q.piece; cells = sent_cells rows q }) → ⊥

-- these counts are those of the pieces of a rest and of one piece more
pub record AreCountsWith (piece : Piece) (left rest : ℕ) (counts : List ℕ) : Type 0 where
  pub size : length counts ≡ 8
  pub each : (code : ℕ) → code < 8 → slice_index counts code ≡ codes_with piece (left + 1) rest code

-- the mark at this index is of the pieces of a rest and of one piece more
pub record IsMarkOf (known : List Mark) (piece : Piece) (left rest index : ℕ) : Type 0 where
  pub counts : List ℕ
  pub there : HasMarkAt known index counts
  pub are : AreCountsWith piece left rest counts

-- for each rest the index of the mark of its pieces, if there is one
pub record AreIndexes (known : List Mark) (piece : Piece) (left : ℕ) (rests : List ℕ) (indexes : List (Option ℕ)) : Type 0 where
  pub size : length indexes ≡ length rests
  pub each : (k : ℕ) → k < length rests
      → IfSome (slice_index_or indexes k None) (IsMarkOf known piece left (slice_index rests k))
