-- How a list of numbers is read as a field: each number is a row, and its bit x is column x.
use Rattle.std.specs.Prelude.{ℕ, suc, ◌*◌, ◌/◌, ◌^◌, ℤ, pos, negsuc, Bool, ◌&&◌, ◌==◌, ◌%◌, nat_le, List, slice_index}
use Rattle.std.specs.Int.{bit_at}
use Rattle.lane_board.specs.Field.{Field}

-- whether bit k of n is set
unfoldable pub has_bit : ℕ → ℕ → Bool
has_bit n k = bit_at n k == 1

-- the cells of rows of bits, the lowest row first
unfoldable pub cells_of_bits : List ℕ → Field
cells_of_bits rows x y = has_bit (slice_index rows y) x

-- how many rows a board may have: 8, 16, 24 or 32
abbrev pub is_lane_count : ℕ → Bool
is_lane_count n = (n % 8 == 0) && (nat_le 8 n && nat_le n 32)

-- a row moved so many columns to the right; what leaves columns 0 to 9 is dropped
unfoldable pub moved_row : ℤ → ℕ → ℕ
moved_row (pos k) row = row * 2 ^ k % 1024
moved_row (negsuc k) row = row / 2 ^ suc k

-- the row at a whole number, of which a negative one has no cell
unfoldable pub row_at : List ℕ → ℤ → ℕ
row_at rows (pos y) = slice_index rows y
row_at rows (negsuc _) = 0
