-- The empty cells below a row, one by one.
use Rattle.std.proofs.Common.{◌≡◌, ℕ, ◌<◌, true, false, pos, arith, rules}
use Rattle.std.proofs.lemmas.Bool.{and_parts, and_from, false≢true, false_from_ne_true, not-true, not_from_false, ltb-true, lt-ltb}
use Rattle.lane_board.specs.Field.{Field, rows_below}
use Rattle.srs.specs.Cells.{Cell}
use Rattle.prune.specs.Tiling.{is_empty_below}

-- where an empty cell lies
pub record EmptyCell (F : Field) (rows : ℕ) (cell : Cell) : Type 0 where
  pub x : ℕ
  pub y : ℕ
  pub is : cell ≡ (pos x, pos y)
  pub in_columns : x < 10
  pub below : y < rows
  pub empty : F x y ≡ false

pub empty_cell : (F : Field) (rows : ℕ) (cell : Cell) → is_empty_below F rows cell ≡ true → EmptyCell F rows cell
unfolding is_empty_below rows_below
empty_cell F rows cell here = search (rules, and_parts, ltb-true, not-true, false≢true)

pub is_empty_at : (F : Field) (rows x y : ℕ) → x < 10 → y < rows → F x y ≡ false → is_empty_below F rows (pos x, pos y) ≡ true
unfolding is_empty_below rows_below
is_empty_at F rows x y column below empty = and_from _ _ (and_from _ _ (lt-ltb x 10 column) (lt-ltb y rows below)) (not_from_false (F x y) empty)

-- no cell is below row 0
pub none_below : (F : Field) (rows : ℕ) (cell : Cell) → rows ≡ 0 → is_empty_below F rows cell ≡ false
none_below F rows cell none = false_from_ne_true _ (λ here. let e = empty_cell F rows cell here in omega (arith, e.below))
