-- The cells of a set whose columns are counted from one of them, with the columns counted from 0.
use Rattle.std.specs.Prelude.{ℕ, ◌-◌, ◌&&◌, nat_le}
use Rattle.lane_board.specs.Field.{Field}
use Rattle.empty_cells.specs.declared.shifted.Shifted.{Shifted}
use Rattle.empty_cells.specs.Empties.{empty_cells}

-- a set whose columns are counted from column x
unfoldable pub to_column : ℕ → Field → Field
to_column x E a b = nat_le x a && E (a - x) b

abbrev pub shifted_cells : Shifted → Field
shifted_cells shifted = to_column shifted.x (empty_cells shifted.cells)
