-- How many cells a field has in its ten columns.
use Rattle.std.specs.Prelude.{ℕ, zero, suc, ◌+◌, count_by}
use Rattle.lane_board.specs.Field.{Field}
use Rattle.lane_board.specs.FullRows.{columns}

-- how many cells row y has
unfoldable pub row_count : Field → ℕ → ℕ
row_count F y = count_by (λ x. F x y) columns

-- how many cells rows 0 to height - 1 have
unfoldable pub cell_count : Field → ℕ → ℕ
cell_count F zero = 0
cell_count F (suc n) = cell_count F n + row_count F n
