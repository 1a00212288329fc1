-- Rows moved by columns, and boards moved by columns and rows.
use Rattle.std.proofs.Common.{◌≡◌, ℕ, ◌*◌, ◌^◌, ◌<◌, ℤ, pos, negsuc, ◌-ℤ◌, Bool, false, ◌&&◌, nat_lt, List, length, get_or, arith, rules}
use Rattle.std.proofs.Math.Path.{fun_ext}
use Rattle.std.proofs.lemmas.Bool.{cases_lt, and_left, and_right, le-ltb, lt-ltb}
use Rattle.std.proofs.lemmas.Nat.{mod_below, shr_le}
use Rattle.lane_board.specs.Field.{has_cell, rows_below, moved_within}
use Rattle.lane_board.specs.Lanes.{has_bit, cells_of_bits, moved_row, row_at}
use Rattle.lane_board.proofs.BoardRows.{no_cell_above, each_in_columns}
use Rattle.lane_board.proofs.CellTests.{and_true}
use Rattle.lane_board.proofs.RowBits.{has_bit-zero, has_bit-above, has_bit-low, has_bit-shifted_low, has_bit-shifted_high, has_bit-shifted_right}

pub moved_row-zero : (dx : ℤ) → moved_row dx 0 ≡ 0
unfolding moved_row
moved_row-zero dx = search (rules, shr_le)

pub moved_row-small : (dx : ℤ) (row : ℕ) → row < 1024 → moved_row dx row < 1024
unfolding moved_row
moved_row-small dx row small = search (rules, mod_below, shr_le)

-- whether a row has the column at a whole number
column_at : ℕ → ℤ → Bool
column_at row (pos x) = has_bit row x
column_at row (negsuc _) = false

column_inside : (dx : ℤ) (row x : ℕ) → x < 10 → has_bit (moved_row dx row) x ≡ column_at row (pos x -ℤ dx)
unfolding moved_row column_at
column_inside (pos k) row x column = search (rules, (has_bit-low (row * 2 ^ k) 10 x column), (cases_lt x k), has_bit-shifted_low, has_bit-shifted_high)
column_inside (negsuc k) row x column = search (rules, has_bit-shifted_right)

column_moved : (dx : ℤ) (row x : ℕ) → row < 1024 → has_bit (moved_row dx row) x ≡ (nat_lt x 10 && column_at row (pos x -ℤ dx))
column_moved dx row x small =
    search (rules, cases_lt, column_inside, lt-ltb, has_bit-above, moved_row-small, and_left, le-ltb)

-- a cell by its row and its column
cell_at : (rows : List ℕ) (x y : ℤ) → has_cell (cells_of_bits rows) x y ≡ column_at (row_at rows y) x
unfolding has_cell cells_of_bits column_at row_at
cell_at rows x y = search (rules, has_bit-zero)

row_at-small : (rows : List ℕ) (y : ℤ) → ((z : ℕ) → get_or rows z 0 < 1024) → row_at rows y < 1024
unfolding row_at
row_at-small rows y small = search rules

-- a board each of whose rows is the moved row of another board, so many rows further down
pub moved_cells : (dx dy : ℤ) (n : ℕ) (xs rows : List ℕ) → length rows ≡ n → ((z : ℕ) → get_or xs z 0 < 1024) →
    ((y : ℕ) → y < n → get_or rows y 0 ≡ moved_row dx (row_at xs (pos y -ℤ dy))) →
    cells_of_bits rows ≡ moved_within (cells_of_bits xs) n dx dy
unfolding moved_within rows_below cells_of_bits
moved_cells dx dy n xs rows size small moved =
    search (rules, fun_ext, cases_lt, column_moved, row_at-small, cell_at, lt-ltb, and_true, no_cell_above, and_left, and_right, le-ltb)

pub moved_in_columns : (dx dy : ℤ) (n : ℕ) (xs rows : List ℕ) → length rows ≡ n → ((z : ℕ) → get_or xs z 0 < 1024) →
    ((y : ℕ) → y < n → get_or rows y 0 ≡ moved_row dx (row_at xs (pos y -ℤ dy))) → (y : ℕ) → get_or rows y 0 < 1024
moved_in_columns dx dy n xs rows size small moved = each_in_columns n rows size (λ y below. omega (arith, moved y below, moved_row-small dx (row_at xs (pos y -ℤ dy)) (row_at-small xs (pos y -ℤ dy) small)))
