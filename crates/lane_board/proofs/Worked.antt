-- The definitions, tried on a field with rows 0 and 2 full and the cell (3, 3).
use Rattle.std.proofs.Common.{◌≡◌, pos, negsuc, true, false, ◌&&◌, ◌||◌, ◌==◌, nat_lt, [], ◌∷◌, refl}
use Rattle.lane_board.specs.Field.{Field, has_cell, rows_below, moved_within}
use Rattle.lane_board.specs.FullRows.{is_full, full_below, without_full_rows}
use Rattle.lane_board.specs.CellCount.{row_count, cell_count}
use Rattle.lane_board.specs.Lanes.{has_bit, cells_of_bits}

abbrev sample : Field
sample x y = (nat_lt x 10 && (y == 0 || y == 2)) || (x == 3 && y == 3)

full : is_full sample 2 ≡ true
unfolding is_full
full = refl

not_full : is_full sample 3 ≡ false
unfolding is_full
not_full = refl

two_full : full_below sample 16 ≡ 2
unfolding full_below is_full
two_full = refl

cells_before : cell_count sample 16 ≡ 21
unfolding cell_count row_count
cells_before = refl

lowered_by_two : without_full_rows sample 16 3 1 ≡ true
unfolding without_full_rows is_full full_below
lowered_by_two = refl

one_cell_left : cell_count (without_full_rows sample 16) 16 ≡ 1
unfolding cell_count row_count without_full_rows is_full full_below
one_cell_left = refl

moved_down : moved_within sample 16 (pos 2) (negsuc 0) 5 2 ≡ true
unfolding moved_within has_cell rows_below
moved_down = refl

dropped_at_the_edge : moved_within sample 16 (pos 1) (pos 0) 10 0 ≡ false
unfolding moved_within has_cell rows_below
dropped_at_the_edge = refl

nothing_comes_in : moved_within sample 16 (pos 1) (pos 0) 0 0 ≡ false
unfolding moved_within has_cell rows_below
nothing_comes_in = refl

bits_are_columns : cells_of_bits (0 ∷ 5 ∷ []) 2 1 ≡ true
unfolding cells_of_bits has_bit
bits_are_columns = refl
