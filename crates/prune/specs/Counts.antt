-- Counts of empty cells by which a tiling is seen to be impossible.
use Rattle.std.specs.Prelude.{◌≡◌, ◌≢◌, ℕ, ◌+◌, ◌-◌, ◌*◌, ◌%◌, ◌<◌, ◌≤◌, not, sum_by, count_by}
use Rattle.std.specs.List.{range_with_len}
use Rattle.lane_board.specs.Field.{Field}
use Rattle.srs.specs.Piece.{all_pieces}
use Rattle.well.specs.Counts.{empties_below}
use Rattle.prune.specs.Tiling.{Supply}

-- how many cells of a column are empty in rows 0 to rows - 1
unfoldable pub column_empties : Field → ℕ → ℕ → ℕ
column_empties F rows x = count_by (λ y. not (F x y)) (range_with_len 0 rows)

-- a longest run of neighbouring columns that each have an empty cell: from column `first` to column `last`
pub record IsRun (F : Field) (rows first last : ℕ) : Type 0 where
  pub order : first ≤ last
  pub within : last ≤ 9
  pub opened : (x : ℕ) → first ≤ x → x ≤ last → 0 < column_empties F rows x
  pub left_end : (x : ℕ) → x + 1 ≡ first → column_empties F rows x ≡ 0
  pub right_end : last < 9 → column_empties F rows (last + 1) ≡ 0

-- how many cells of the columns from `first` to `last` are empty
unfoldable pub run_empties : Field → ℕ → ℕ → ℕ → ℕ
run_empties F rows first last = sum_by (column_empties F rows) (range_with_len first (last + 1 - first))

-- how many cells of columns 0, 2, 4, 6 and 8 are empty
unfoldable pub even_column_empties : Field → ℕ → ℕ
even_column_empties F rows = sum_by (λ k. column_empties F rows (2 * k)) (range_with_len 0 5)

-- some run has a number of empty cells that is no multiple of four
pub record HasUnevenRun (F : Field) (rows : ℕ) : Type 0 where
  pub first : ℕ
  pub last : ℕ
  pub run : IsRun F rows first last
  pub uneven : run_empties F rows first last % 4 ≢ 0

-- One of three counts shows that there is no tiling: the empty cells are no multiple of four; they are more than four
-- times the pieces; or those of some run are no multiple of four.
pub data IsRefusedByCounts (F : Field) (rows : ℕ) (supply : Supply) : Type 0 where
  uneven_cells : empties_below F rows % 4 ≢ 0 → IsRefusedByCounts F rows supply
  too_few_pieces : 4 * sum_by supply all_pieces < empties_below F rows → IsRefusedByCounts F rows supply
  uneven_run : HasUnevenRun F rows → IsRefusedByCounts F rows supply
