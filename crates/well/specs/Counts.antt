-- How many cells are empty below a height, and which rows are full or hold a cell.
use Rattle.std.specs.Prelude.{ℕ, ◌-◌, ◌*◌, Bool, ◌&&◌, Option, List, find, nat_le}
use Rattle.std.specs.List.{list_any, range_with_len}
use Rattle.lane_board.specs.Field.{Field}
use Rattle.lane_board.specs.FullRows.{columns, is_full}
use Rattle.lane_board.specs.CellCount.{cell_count}

-- the rows of the well, from the lowest up
abbrev pub rows : List ℕ
rows = range_with_len 0 23

-- how many cells of rows 0 to height - 1 are empty
abbrev pub empties_below : Field → ℕ → ℕ
empties_below F height = 10 * height - cell_count F height

-- a row has a filled cell
unfoldable pub is_filled_row : Field → ℕ → Bool
is_filled_row F y = list_any (λ x. F x y) columns

-- the lowest full row, if there is one
unfoldable pub lowest_full : Field → Option ℕ
lowest_full F = find (λ y. is_full F y) rows

-- the lowest row at or above the height that has a filled cell, if there is one
unfoldable pub lowest_filled_from : Field → ℕ → Option ℕ
lowest_filled_from F height = find (λ y. nat_le height y && is_filled_row F y) rows
