-- Which cells are left after full rows are removed.
use Rattle.std.proofs.Common.{◌≡◌, ◌≢◌, ℕ, zero, suc, ◌+◌, ◌-◌, ◌<◌, ◌≤◌, true, false, not, cond, ◌&&◌, ◌⊎◌, refl, sym, ap, ◌∙◌, arith, rules}
use Rattle.std.proofs.Math.Path.{fun_ext}
use Rattle.std.proofs.lemmas.Bool.{and_parts, and_from, or_cases, or_left, or_right, not-true, not_from_false, eqb-true, eq-eqb, cases_Bool, cases_eq, cases_order, ne_eqb, false≢true, and_left, and_right}
use Rattle.lane_board.specs.Field.{Field}
use Rattle.lane_board.specs.FullRows.{is_full, full_below, without_full_rows}
use Rattle.lane_board.specs.RemovalLaws.{IsLowered, LowersEachCell}
use Rattle.lane_board.proofs.CellTests.{or_none, same_from_both}

pub full_below-full : (F : Field) (n : ℕ) → is_full F n ≡ true → full_below F (suc n) ≡ full_below F n + 1
unfolding full_below
full_below-full F n full = ap (λ b. full_below F n + cond b 1 0) full

pub full_below-other : (F : Field) (n : ℕ) → is_full F n ≡ false → full_below F (suc n) ≡ full_below F n
unfolding full_below
full_below-other F n other = let e = ap (λ b. full_below F n + cond b 1 0) other in omega arith

pub full_below-le : (F : Field) (n : ℕ) → full_below F n ≤ n
unfolding full_below
full_below-le F zero = omega arith
full_below-le F (suc n) = search (rules, cases_Bool, full_below-full, full_below-other, (full_below-le F n))

-- the two cases of a cell that is left
left_cases : (F : Field) (n x y : ℕ) → without_full_rows F (suc n) x y ≡ true → (without_full_rows F n x y ≡ true) ⊎ ((F x n ≡ true) × (is_full F n ≡ false) × (n - full_below F n ≡ y))
unfolding without_full_rows
left_cases F n x y h = search (rules, or_cases, and_parts, not-true, eqb-true)

pub lowered_from : (F : Field) (n x y : ℕ) → without_full_rows F n x y ≡ true → IsLowered F n x y
unfolding without_full_rows
lowered_from F zero x y h = absurd (false≢true h)
lowered_from F (suc n) x y h = search (rules, left_cases, full_below-le, (lowered_from F n x y))

pub lowered_to : (F : Field) (n x y : ℕ) → IsLowered F n x y → without_full_rows F n x y ≡ true
unfolding without_full_rows
lowered_to F zero x y was = absurd (omega (arith, was.below))
lowered_to F (suc n) x y was =
    search (rules, cases_eq, or_right, and_from, not_from_false, eq-eqb, or_left, (lowered_to F n x y))

pub lowers_each_cell : LowersEachCell
lowers_each_cell F n x y = (lowered_from F n x y, lowered_to F n x y)

-- no cell is left above the rows that stay
pub left_below : (F : Field) (n x y : ℕ) → without_full_rows F n x y ≡ true → y + full_below F n < n
unfolding without_full_rows
left_below F zero x y h = absurd (false≢true h)
left_below F (suc n) x y h =
    search (rules, left_cases, cases_Bool, full_below-full, full_below-other, full_below-le, (left_below F n x y))

-- a row that goes, or one with no cell, adds nothing to what is left
left_same : (F : Field) (n : ℕ) → ((x : ℕ) → (F x n && not (is_full F n)) ≡ false) → without_full_rows F (suc n) ≡ without_full_rows F n
unfolding without_full_rows
left_same F n none = fun_ext (λ x. fun_ext (λ y. or_none _ _ (and_left _ _ (none x))))

pub without_full_rows-full : (F : Field) (n : ℕ) → is_full F n ≡ true → without_full_rows F (suc n) ≡ without_full_rows F n
without_full_rows-full F n full = left_same F n (λ x. and_right _ _ (ap not full))

pub without_full_rows-empty : (F : Field) (n : ℕ) → ((x : ℕ) → F x n ≡ false) → without_full_rows F (suc n) ≡ without_full_rows F n
without_full_rows-empty F n empty = left_same F n (λ x. and_left _ _ (empty x))

-- empty rows at the top make no difference
pub without_full_rows-above : (F : Field) (low high : ℕ) → low ≤ high → ((x y : ℕ) → low ≤ y → F x y ≡ false) → without_full_rows F low ≡ without_full_rows F high
without_full_rows-above F low high few above = more (high - low) high (omega (arith, few))
  where
    more : (n top : ℕ) → top ≡ n + low → without_full_rows F low ≡ without_full_rows F top
    more zero top is = ap (without_full_rows F) (omega (arith, is))
    more (suc n) zero is = absurd (omega (arith, is))
    more (suc n) (suc top) is = more n top (omega (arith, is)) ∙ sym (without_full_rows-empty F top (λ x. above x top (omega (arith, is))))

pub full_below-empty : (F : Field) (n : ℕ) → ((x : ℕ) → F x n ≡ false) → full_below F (suc n) ≡ full_below F n
unfolding is_full
full_below-empty F n empty = full_below-other F n (and_left _ _ (empty 0))

-- a row that stays is the row above those that are left of the rows below it
pub row_left : (F : Field) (n m x : ℕ) → is_full F n ≡ false → m + full_below F n ≡ n → without_full_rows F (suc n) x m ≡ F x n
unfolding without_full_rows
row_left F n m x stays at = search (rules, same_from_both, left_cases, left_below, lowered_to)

-- the other rows stay as they are
pub rows_left : (F : Field) (n x y : ℕ) → y + full_below F n ≢ n → without_full_rows F (suc n) x y ≡ without_full_rows F n x y
unfolding without_full_rows
rows_left F n x y other = search (rules, or_none, and_right, ne_eqb, full_below-le)

-- a field with no full row stays
none_full_below : (F : Field) (n : ℕ) → ((y : ℕ) → is_full F y ≡ false) → full_below F n ≡ 0
unfolding full_below
none_full_below F zero none = refl
none_full_below F (suc n) none = omega (arith, none_full_below F n none, full_below-other F n (none n))

pub without_full_rows-none : (F : Field) (n : ℕ) → ((x y : ℕ) → F x y ≡ true → y < n) → ((y : ℕ) → is_full F y ≡ false) → F ≡ without_full_rows F n
without_full_rows-none F n below none = fun_ext (λ x. fun_ext (λ y. same_from_both _ _ (
    λ filled. lowered_to F n x y (record { row = y; below = below x y filled; filled = filled; stays = none y; lowered = omega (arith, none_full_below F y none) })
    ) (λ left.
    let was = lowered_from F n x y left in
    ap (F x) (omega (arith, was.lowered, none_full_below F was.row none)) ∙ was.filled
    )))

-- ---- how the number of full rows below a row rises

-- among so many more rows there are at most so many more full ones
full_steps : (F : Field) (n more : ℕ) → full_below F (n + more) ≤ full_below F n + more
full_steps F n zero = let size : n + 0 ≡ n = omega arith in omega (arith, ap (full_below F) size)
full_steps F n (suc more) = search (rules, (cases_Bool (is_full F (n + more))), (full_below-full F (n + more)), (full_steps F n more), (full_below-other F (n + more)))

pub full_rises : (F : Field) (a b : ℕ) → a ≤ b → full_below F b + a ≤ full_below F a + b
full_rises F a b below = let size : a + (b - a) ≡ b = omega arith in omega (arith, ap (full_below F) size, full_steps F a (b - a))

-- a row that isn't full stays below the rows that were above it
pub lowered_rises : (F : Field) (a b : ℕ) → is_full F a ≡ false → a < b → a + full_below F b < b + full_below F a
lowered_rises F a b stays below = omega (arith, full_rises F (suc a) b (omega arith), full_below-other F a stays)

-- so two of them are lowered to one row only where they are the same
pub one_row : (F : Field) (y a b : ℕ) → is_full F a ≡ false → is_full F b ≡ false → y + full_below F a ≡ a → y + full_below F b ≡ b → a ≡ b
one_row F y a b stays_a stays_b from_a from_b = search (rules, cases_order, lowered_rises)

-- no row from a height on is full, so no more go
pub full_above : (F : Field) (height more : ℕ) → ((y : ℕ) → height ≤ y → is_full F y ≡ false) → full_below F (height + more) ≡ full_below F height
full_above F height zero none = ap (full_below F) (omega arith)
full_above F height (suc more) none = search (rules, (full_below-other F (height + more)), (full_above F height more none))
