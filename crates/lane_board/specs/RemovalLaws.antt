-- What the removal of full rows does, cell by cell and in number.
use Rattle.std.specs.Prelude.{◌≡◌, ℕ, ◌+◌, ◌*◌, ◌<◌, true, false, ◌↔◌}
use Rattle.lane_board.specs.Field.{Field}
use Rattle.lane_board.specs.FullRows.{is_full, full_below, without_full_rows}
use Rattle.lane_board.specs.CellCount.{row_count, cell_count}

-- the cell (x, y) is a cell of a row of F that is not full, lowered by the number of full rows below that row
pub record IsLowered (F : Field) (height x y : ℕ) : Type 0 where
  pub row : ℕ
  pub below : row < height
  pub filled : F x row ≡ true
  pub stays : is_full F row ≡ false
  pub lowered : y + full_below F row ≡ row

-- what is left are the lowered cells of the rows that are not full, and no others
abbrev pub LowersEachCell : Type 0
LowersEachCell = (F : Field) (height x y : ℕ) → (without_full_rows F height x y ≡ true) ↔ IsLowered F height x y

-- a row is full exactly where it has ten cells
abbrev pub FullHasTen : Type 0
FullHasTen = (F : Field) (y : ℕ) → (is_full F y ≡ true) ↔ (row_count F y ≡ 10)

-- each row that goes takes ten cells with it, and no other cell is lost
abbrev pub TakesTenEach : Type 0
TakesTenEach = (F : Field) (height : ℕ) → cell_count (without_full_rows F height) height + 10 * full_below F height
    ≡ cell_count F height
