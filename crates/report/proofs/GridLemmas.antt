-- A picture of a grid, letter by letter and row by row.
use Rattle.std.proofs.Common.{◌≡◌, ℕ, ◌+◌, ◌-◌, ◌<◌, ◌≤◌, false, List, [], ◌∷◌, ◌++◌, length, take, drop, get_or, map, ap, arith, append_assoc, rules}
use Rattle.std.proofs.lemmas.Bool.{false_from_ne_true}
use Rattle.std.proofs.lemmas.List.{map-append, drop_more, drop_all}
use Rattle.lane_board.specs.Field.{Field}
use Rattle.lane_board.specs.FullRows.{columns}
use Rattle.srs.specs.declared.placement.Placement.{Placement}
use Rattle.well.specs.declared.well.Well.{Well}
use Rattle.well.specs.Lock.{locked, rows_removed}
use Rattle.well.specs.Well.{filled}
use Rattle.well.proofs.CallerLemmas.{filled-within}
use Rattle.report.specs.Grid.{grid_letter, grid_pictures, grid_row, grid_rows}
use Rattle.report.proofs.Columns.{columns_more}

-- no well has a cell above its rows
pub empty_above : (well : Well) (x y : ℕ) → 23 ≤ y → filled well x y ≡ false
empty_above well x y above = false_from_ne_true _ (λ has. omega (arith, above, (filled-within well x y has).1))

-- one more letter of a row is written
pub letter_more : (F : Field) (q : Placement) (y x letter : ℕ) (old before now : List ℕ) → x < 10 → letter ≡ grid_letter F q y x
    → before ≡ old ++ map (grid_letter F q y) (take x columns) → now ≡ before ++ letter ∷ [] → now ≡ old ++ map (grid_letter F q y) (take (x + 1) columns)
letter_more F q y x letter old before now column is so_far more =
    search (rules, columns, append_assoc, columns_more, map-append)

-- one more row is written, where n rows are left
pub row_more : (F : Field) (q : Placement) (whole before now : List ℕ) (n : ℕ) → 0 < n → whole ≡ before ++ grid_rows F q n → now ≡ before ++ grid_row F q (n - 1) → whole ≡ now ++ grid_rows F q (n - 1)
unfolding grid_rows
row_more F q whole before now n some so_far more = search (rules, append_assoc)

-- no row is left
pub rows_end : (F : Field) (q : Placement) (whole written : List ℕ) (n : ℕ) → n ≤ 0 → whole ≡ written ++ grid_rows F q n → written ≡ whole
unfolding grid_rows
rows_end F q whole written n none so_far = search rules

-- the next picture, and what is left after it
pub next_picture : (F after : Field) (rows left : ℕ) (s : List Placement) (i : ℕ) (d : Placement) (piece : List ℕ) → i < length s → piece ≡ grid_rows F (get_or s i d) rows ++ 10 ∷ [] → after ≡ locked F (get_or s i d)
    → left ≡ rows - rows_removed F (get_or s i d) → grid_pictures F rows (drop i s) ≡ piece ++ grid_pictures after left (drop (i + 1) s)
unfolding grid_pictures
next_picture F after rows left s i d piece within text leaves fewer = search (rules, drop_more)

-- no picture is left
pub no_picture : (F : Field) (rows : ℕ) (s : List Placement) (i : ℕ) → length s ≤ i → grid_pictures F rows (drop i s) ≡ []
unfolding grid_pictures
no_picture F rows s i past = ap (grid_pictures F rows) (drop_all i s past)
