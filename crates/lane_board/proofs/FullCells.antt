-- A row is full where it has the cell in each of its ten columns.
use Rattle.std.proofs.Common.{◌≡◌, ℕ, ◌<◌, true, false, rules}
use Rattle.std.proofs.lemmas.Bool.{both_ways, cases_Bool}
use Rattle.std.proofs.lemmas.List.Folds.{list_all_at}
use Rattle.lane_board.specs.Field.{Field}
use Rattle.lane_board.specs.FullRows.{is_full}
use Rattle.lane_board.proofs.RowTables.{column_is}

pub not_full_from_cell : (F : Field) (x y : ℕ) → x < 10 → F x y ≡ false → is_full F y ≡ false
unfolding is_full
not_full_from_cell F x y column empty = search (rules, list_all_at, column_is)

pub cell_from_full : (F : Field) (x y : ℕ) → x < 10 → is_full F y ≡ true → F x y ≡ true
cell_from_full F x y column full = search (rules, (cases_Bool (F x y)), both_ways, (not_full_from_cell F x y column))
