-- Cells as the bits of one number.
use Rattle.std.specs.Prelude.{ℕ, ◌+◌, ◌*◌, ◌&&◌, nat_lt}
use Rattle.lane_board.specs.Field.{Field}
use Rattle.lane_board.specs.Lanes.{has_bit}

-- the cells of a number: bit 10 y + x is the cell in column x and row y
unfoldable pub cells_in_bits : ℕ → Field
cells_in_bits n x y = nat_lt x 10 && has_bit n (10 * y + x)
