-- The number of cells of a board, by its rows.
use Rattle.std.proofs.Common.{◌≡◌, ℕ, zero, suc, ◌+◌, ◌<◌, ◌≤◌, sum_by, count_ones, List, length, get_or, take, drop, ap, ◌∙◌, arith}
use Rattle.std.specs.Simd.Lanes.{chunk}
use Rattle.std.proofs.lemmas.List.{get_or-drop, length-drop}
use Rattle.std.proofs.lemmas.List.Sums.{sum_by_more}
use Rattle.lane_board.specs.CellCount.{cell_count}
use Rattle.lane_board.specs.Lanes.{cells_of_bits}
use Rattle.lane_board.proofs.RowTables.{row_count_is}

-- the cells of k more rows
cell_count-more : (rows : List ℕ) (at k : ℕ) → ((y : ℕ) → get_or rows y 0 < 1024) → at + k ≤ length rows →
    cell_count (cells_of_bits rows) (at + k) ≡ cell_count (cells_of_bits rows) at + sum_by count_ones (take k (drop at rows))
unfolding cell_count
cell_count-more rows at zero small within = ap (cell_count (cells_of_bits rows)) {y = at} (omega arith) ∙ omega arith
cell_count-more rows at (suc k) small within =
    ap (cell_count (cells_of_bits rows)) {y = suc (at + k)} (omega arith)
    ∙ omega (
      arith,
      cell_count-more rows at k small (omega arith),
      row_count_is rows (at + k) (small (at + k)),
      ap count_ones (get_or-drop at rows k 0),
      sum_by_more count_ones (drop at rows) k 0 (omega (arith, length-drop at rows)),
      ap (λ j. sum_by count_ones (take j (drop at rows))) {x = k + 1} {y = suc k} (omega arith),
    )

-- the cells of eight more rows
pub cell_count-eight : (rows : List ℕ) (at : ℕ) → ((y : ℕ) → get_or rows y 0 < 1024) → at + 8 ≤ length rows →
    cell_count (cells_of_bits rows) (at + 8) ≡ cell_count (cells_of_bits rows) at + sum_by count_ones (chunk at 8 rows)
cell_count-eight rows at small within = cell_count-more rows at 8 small within
