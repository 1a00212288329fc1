-- What locking does to the number of cells, and to the rows that hold them.
use Rattle.std.specs.Prelude.{◌≡◌, ℕ, ◌+◌, ◌*◌, ◌≤◌, Bool, IsTrue, false, int_lt, pos}
use Rattle.std.specs.List.{list_all}
use Rattle.lane_board.specs.Field.{Field}
use Rattle.lane_board.specs.CellCount.{cell_count}
use Rattle.srs.specs.declared.placement.Placement.{Placement}
use Rattle.srs.specs.Cells.{cells_of}
use Rattle.well.specs.Free.{is_free}
use Rattle.well.specs.Lock.{locked, rows_removed}

-- a free placement adds four cells, and each removed row takes ten
abbrev pub AddsFourCells : Type 0
AddsFourCells = (F : Field) (placement : Placement) → IsTrue (is_free F placement)
    → cell_count (locked F placement) 23 + 10 * rows_removed F placement ≡ cell_count F 23 + 4

-- a field has no cell in row `height` or above
pub record LiesBelow (F : Field) (height : ℕ) : Type 0 where
  pub none : (x y : ℕ) → height ≤ y → F x y ≡ false

-- each cell of the placement lies in a row below this one
abbrev pub is_below : ℕ → Placement → Bool
is_below rows placement = list_all (λ cell. int_lt cell.1 (pos rows)) (cells_of placement)

-- where field and placement lie below a height, what is left lies below the height less the removed rows
abbrev pub StaysBelow : Type 0
StaysBelow = (F : Field) (placement : Placement) (height : ℕ) → height ≤ 23 → LiesBelow F height
    → IsTrue (is_below height placement) →
    (x y : ℕ) → height ≤ y + rows_removed F placement → locked F placement x y ≡ false

-- and no more rows are removed than lie below it
abbrev pub RemovesBelow : Type 0
RemovesBelow = (F : Field) (placement : Placement) (height : ℕ) → height ≤ 23 → LiesBelow F height
    → IsTrue (is_below height placement) → rows_removed F placement ≤ height
