-- The cells of a well, and of the boards that it is made from.
use Rattle.std.proofs.Common.{◌≡◌, ◌≢◌, ℕ, ◌+◌, ◌-◌, ◌<◌, ◌≤◌, nat_lt, true, false, pos, sym, ap, ◌∙◌, inl, inr, arith, rules}
use Rattle.std.proofs.Math.Path.{fun_ext}
use Rattle.std.proofs.lemmas.Bool.{and_from, and_left, and_right, or_from, cases_Bool, false_from_ne_true, ne_eqb, lt-ltb, le-ltb, both_ways}
use Rattle.lane_board.specs.Field.{Field, with_cell, moved_within, rows_below, has_cell, intersection}
use Rattle.lane_board.specs.FullRows.{full_below, without_full_rows}
use Rattle.lane_board.specs.CellCount.{cell_count}
use Rattle.lane_board.proofs.CallerLemmas.{field_of-within, cell_count-same, cell_count-above, left_below, without_full_rows-empty, full_below-empty}
use Rattle.well.specs.declared.well.Well.{Well}
use Rattle.well.specs.RowsReading.{raised}
use Rattle.well.specs.Well.{filled}

-- a well has its cells in columns 0 to 9 and rows 0 to 22
pub filled-within : (w : Well) (x y : ℕ) → filled w x y ≡ true → (x < 10) × (y < 23)
unfolding filled
filled-within w x y has = search (rules, field_of-within, both_ways)

-- a cell in another row changes nothing in this one
pub with_cell-other_row : (F : Field) (column row x y : ℕ) → y ≢ row → F x y ≡ false → with_cell F column row x y ≡ false
unfolding with_cell
with_cell-other_row F column row x y other empty = or_from _ _ empty (and_right _ _ (ne_eqb y row other))

-- a move by one row up raises each cell
pub moved_is_raised : (F : Field) → ((x y : ℕ) → F x y ≡ true → (x < 10) × (y < 23)) → moved_within F 24 (pos 0) (pos 1) ≡ raised F
unfolding moved_within has_cell rows_below raised
moved_is_raised F within = search (rules, fun_ext, and_right, cases_Bool, and_from, lt-ltb)

-- full rows are those below an empty top row
pub removal_below_top : (F : Field) → ((x : ℕ) → F x 23 ≡ false) → without_full_rows F 24 ≡ without_full_rows F 23
removal_below_top F top = without_full_rows-empty F 23 top

pub full_below_top : (F : Field) → ((x : ℕ) → F x 23 ≡ false) → full_below F 24 ≡ full_below F 23
full_below_top F top = full_below-empty F 23 top

pub top_stays_empty : (F : Field) → ((x : ℕ) → F x 23 ≡ false) → (x : ℕ) → without_full_rows F 24 x 23 ≡ false
top_stays_empty F top x = ap (λ G. G x 23) (removal_below_top F top) ∙ false_from_ne_true _ (λ left. omega (arith, left_below F 23 x 23 left))

-- the cells below a height are as many on the board that has only these
pub counted_below : (F : Field) (height : ℕ) → height ≤ 24 → ((x y : ℕ) → F x y ≡ true → x < 10) → cell_count (intersection F (rows_below height)) 24 ≡ cell_count F height
unfolding intersection rows_below
counted_below F height within columns =
    let size : 24 ≡ height + (24 - height) = omega arith in
    ap (cell_count (intersection F (rows_below height))) size
    ∙ cell_count-above (intersection F (rows_below height)) height (24 - height) (λ x y above. and_right (F x y) _ (and_right _ _ (not_below y above)))
    ∙ cell_count-same (intersection F (rows_below height)) F height (λ x y below. elim (cases_Bool (F x y)) [
      | inl has ↦ and_from _ _ has (and_from _ _ (lt-ltb x 10 (columns x y has)) (lt-ltb y height below)) ∙ sym has
      | inr none ↦ and_left _ _ none ∙ sym none
    ])
  where
    not_below : (y : ℕ) → height ≤ y → nat_lt y height ≡ false
    not_below y above = le-ltb y height above
