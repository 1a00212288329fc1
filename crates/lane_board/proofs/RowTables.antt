-- What is computed for each of the 1,024 rows, or each of the ten columns.
use Rattle.std.proofs.Common.{◌≡◌, ℕ, ◌<◌, true, ◌==◌, count_by, count_ones, List, get_or, refl}
use Rattle.std.specs.List.{list_all}
use Rattle.std.specs.Int.Count.{ones}
use Rattle.std.proofs.lemmas.Bool.{agree_below_at, eqb-true}
use Rattle.lane_board.specs.FullRows.{columns, is_full}
use Rattle.lane_board.specs.CellCount.{row_count}
use Rattle.lane_board.specs.Lanes.{has_bit, cells_of_bits}

-- a row has as many cells as its number has ones
pub columns_set : (row : ℕ) → row < 1024 → count_by (λ x. has_bit row x) columns ≡ count_ones row
unfolding has_bit ones
columns_set row small = eqb-true _ _ (agree_below_at (λ r. count_by (λ x. has_bit r x) columns == count_ones r) (λ r. true) 1024 row refl small)

-- a row is full where its number is 1023
pub all_columns_set : (row : ℕ) → row < 1024 → list_all (λ x. has_bit row x) columns ≡ (row == 1023)
unfolding has_bit
all_columns_set row small = agree_below_at (λ r. list_all (λ x. has_bit r x) columns) (λ r. r == 1023) 1024 row refl small

pub row_count_is : (rows : List ℕ) (y : ℕ) → get_or rows y 0 < 1024 → row_count (cells_of_bits rows) y ≡ count_ones (get_or rows y 0)
unfolding row_count cells_of_bits
row_count_is rows y small = columns_set (get_or rows y 0) small

pub is_full_row : (rows : List ℕ) (y : ℕ) → get_or rows y 0 < 1024 → is_full (cells_of_bits rows) y ≡ (get_or rows y 0 == 1023)
unfolding is_full cells_of_bits
is_full_row rows y small = all_columns_set (get_or rows y 0) small

-- the columns are numbered from 0
pub column_is : (k : ℕ) → k < 10 → get_or columns k 0 ≡ k
column_is k below = eqb-true _ _ (agree_below_at (λ k. get_or columns k 0 == k) (λ k. true) 10 k refl below)
