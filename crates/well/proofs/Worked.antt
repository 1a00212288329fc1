-- The definitions, tried on rows texts and on two rows with a gap of four columns.
use Rattle.std.proofs.Common.{◌≡◌, ℕ, ◌&&◌, true, false, nat_lt, List, [], ◌∷◌, Some, None, refl}
use Rattle.srs.specs.declared.piece.Piece.TheVariants.{I}
use Rattle.srs.specs.declared.rotation.Rotation.TheVariants.{Spawn}
use Rattle.srs.specs.declared.placement.Placement.{Placement}
use Rattle.srs.specs.Cells.{moved}
use Rattle.srs.specs.SameCells.{is_among}
use Rattle.lane_board.specs.Field.{Field}
use Rattle.lane_board.specs.FullRows.{is_full, full_below, without_full_rows}
use Rattle.lane_board.specs.CellCount.{cell_count, row_count}
use Rattle.well.specs.declared.rows.RowsFault.TheVariants.{BadRowChar, BadRowLength}
use Rattle.well.specs.Counts.{lowest_filled_from, is_filled_row}
use Rattle.well.specs.Free.{is_open, is_free_at, is_free}
use Rattle.well.specs.Lock.{with_cells, together, locked, rows_removed}
use Rattle.well.specs.Rows.{fault_from, rows_fault, written_cells}

-- `X` and `_`
abbrev row_text : List ℕ
row_text = 88 ∷ 88 ∷ 88 ∷ 88 ∷ 88 ∷ 88 ∷ 95 ∷ 95 ∷ 95 ∷ 95 ∷ []

one_row : rows_fault row_text ≡ None
unfolding rows_fault fault_from
one_row = refl

only_a_slash : rows_fault (47 ∷ []) ≡ Some (BadRowLength 1)
unfolding rows_fault fault_from
only_a_slash = refl

eleventh_byte : rows_fault (88 ∷ 88 ∷ 88 ∷ 88 ∷ 88 ∷ 88 ∷ 95 ∷ 95 ∷ 95 ∷ 95 ∷ 63 ∷ []) ≡ Some (BadRowChar 10)
unfolding rows_fault fault_from
eleventh_byte = refl

-- `XX/X_` has the cell (0, 0) and not (1, 0)
last_row_is_lowest : written_cells (88 ∷ 88 ∷ 47 ∷ 88 ∷ 95 ∷ []) 0 0 ≡ true
unfolding written_cells
last_row_is_lowest = refl

gap_in_the_last_row : written_cells (88 ∷ 88 ∷ 47 ∷ 88 ∷ 95 ∷ []) 1 0 ≡ false
unfolding written_cells
gap_in_the_last_row = refl

abbrev sample : Field
sample x y = nat_lt x 6 && nat_lt y 2

abbrev line : Placement
line = record { piece = I; rotation = Spawn; x = 7; y = 0 }

line_is_free : is_free sample line ≡ true
unfolding is_free_at is_open moved
line_is_free = refl

line_fills_a_row : rows_removed sample line ≡ 1
unfolding rows_removed together with_cells full_below is_full is_among moved
line_fills_a_row = refl

six_cells_are_left : cell_count (locked sample line) 23 ≡ 6
unfolding cell_count row_count locked together with_cells without_full_rows full_below is_full is_among moved
six_cells_are_left = refl

none_in_row_2 : lowest_filled_from sample 2 ≡ None
unfolding lowest_filled_from is_filled_row
none_in_row_2 = refl
