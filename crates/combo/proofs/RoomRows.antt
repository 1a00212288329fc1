-- Rows and cells after full rows are removed below a height at and above which none is full.
use Rattle.std.proofs.lemmas.Grind.{common_steps}
use Rattle.std.proofs.Common.{◌≡◌, ℕ, zero, suc, ◌+◌, ◌*◌, ◌<◌, ◌≤◌, Bool, true, false, cond, count_by, get_or, List, [], ◌∷◌, length, ap, arith, rules}
use Rattle.std.proofs.Math.Path.{fun_ext}
use Rattle.std.proofs.lemmas.Bool.{cases_Bool, cases_eq, cases_order, false_from_ne_true}
use Rattle.std.proofs.lemmas.List.Sums.{sum_by-cons}
use Rattle.lane_board.specs.Field.{Field}
use Rattle.lane_board.specs.FullRows.{columns, is_full, full_below, without_full_rows}
use Rattle.lane_board.specs.CellCount.{row_count, cell_count}
use Rattle.lane_board.proofs.CallerLemmas.{cell_count-above, cell_count-same, column_is, full_below-full, full_below-other, full_rises, left_below, lowered_from, lowered_rises, lowered_to, one_row, same_from_both, takes_ten_each}

-- ---- counts

abbrev count_of : Bool → ℕ
count_of b = cond b 1 0

-- fewer pass a test that passes less
count_le : (p q : ℕ → Bool) (xs : List ℕ) → ((x : ℕ) → p x ≡ true → q x ≡ true) → count_by p xs ≤ count_by q xs
count_le p q [] less = omega arith
count_le p q (x ∷ xs) less = grind (arith, common_steps, cases_Bool, sum_by-cons, count_le p q xs less)

-- a field with the cells of another has as many or more
pub cell_count-more : (F G : Field) (n : ℕ) → ((x y : ℕ) → F x y ≡ true → G x y ≡ true) → cell_count F n ≤ cell_count G n
unfolding cell_count row_count
cell_count-more F G zero more = omega arith
cell_count-more F G (suc n) more = omega (arith, cell_count-more F G n more, count_le (λ x. F x n) (λ x. G x n) columns (λ x. more x n))

-- the rows from a height on are the same, so what they add is
pub same_above : (F G : Field) (height more : ℕ) → ((x y : ℕ) → height ≤ y → F x y ≡ G x y) → cell_count G (height + more) + cell_count F height ≡ cell_count F (height + more) + cell_count G height
unfolding cell_count row_count
same_above F G height zero same = let size : height + 0 ≡ height = omega arith in omega (arith, ap (cell_count F) size, ap (cell_count G) size)
same_above F G height (suc more) same =
    let size : height + suc more ≡ suc (height + more) = omega arith in
    let row : row_count F (height + more) ≡ row_count G (height + more) = ap (λ (p : ℕ → Bool). count_by p columns) (fun_ext (λ x. same x (height + more) (omega arith))) in
    omega (arith, ap (cell_count F) size, ap (cell_count G) size, row, same_above F G height more same)

-- ---- rows

-- a row that is left below the new height comes from one below the height
comes_from_below : (G : Field) (height row y : ℕ) → y + full_below G height < height → y + full_below G row ≡ row → row < height
comes_from_below G height row y under lowered = search (rules, cases_order, full_rises)

-- the cells below the new height, with ten for each row that goes, are those below the height
pub cells_left : (G : Field) (height left : ℕ) → height ≤ 23 → left + full_below G height ≡ height
    → cell_count (without_full_rows G 23) left + 10 * full_below G height ≡ cell_count G height
cells_left G height left within at =
    let removed = without_full_rows G height in
    let same : cell_count (without_full_rows G 23) left ≡ cell_count removed left = cell_count-same (without_full_rows G 23) removed left (λ x y under. agree x y (omega (arith, at, under))) in
    let none = cell_count-above removed left (full_below G height) (λ x y above. false_from_ne_true _ (λ filled. omega (arith, left_below G height x y filled, above, at))) in
    omega (arith, takes_ten_each G height, same, none, ap (cell_count removed) at)
  where
    agree : (x y : ℕ) → y + full_below G height < height → without_full_rows G 23 x y ≡ without_full_rows G height x y
    agree x y under = same_from_both _ _ (λ filled.
        let was = lowered_from G 23 x y filled in
        lowered_to G height x y (record { row = was.row; below = comes_from_below G height was.row y under was.lowered; filled = was.filled; stays = was.stays; lowered = was.lowered })
        ) (λ filled.
        let was = lowered_from G height x y filled in
        lowered_to G 23 x y (record { row = was.row; below = omega (arith, was.below, within); filled = was.filled; stays = was.stays; lowered = was.lowered })
        )

-- a row below the new height comes from a row below the height
pub record ComesFrom (G : Field) (height y : ℕ) : Type 0 where
  pub row : ℕ
  pub below : row < height
  pub stays : is_full G row ≡ false
  pub lowered : y + full_below G row ≡ row

pub comes_from : (G : Field) (height y : ℕ) → y + full_below G height < height → ComesFrom G height y
comes_from G zero y under = absurd (omega (arith, under))
comes_from G (suc n) y under =
    search (rules, (cases_Bool (is_full G n)), (comes_from G n y), (full_below-full G n), (cases_eq (y + full_below G n) n), (full_below-other G n))

-- and has its cells
pub same_row : (G : Field) (height y x : ℕ) → height ≤ 23 → (from : ComesFrom G height y) → without_full_rows G 23 x y ≡ G x from.row
same_row G height y x within from = search (rules, same_from_both, (one_row G y), (lowered_from G 23 x y), (lowered_to G 23 x y))

-- a row that is left at or above the new height comes from one at or above the height
pub comes_from_above : (G : Field) (height row y : ℕ) → height ≤ y + full_below G height → is_full G row ≡ false → y + full_below G row ≡ row → height ≤ row
comes_from_above G height row y above stays lowered = search (rules, cases_order, lowered_rises)

-- one element passes the second test alone
count_less : (p q : ℕ → Bool) (xs : List ℕ) (i : ℕ) → ((x : ℕ) → p x ≡ true → q x ≡ true) → i < length xs → p (get_or xs i 0) ≡ false → q (get_or xs i 0) ≡ true → count_by p xs + 1 ≤ count_by q xs
count_less p q [] i less within fails passes = absurd (omega (arith, within))
count_less p q (x ∷ xs) zero less within fails passes = grind (arith, common_steps, sum_by-cons, count_le)
count_less p q (x ∷ xs) (suc i) less within fails passes =
    grind (arith, common_steps, cases_Bool, sum_by-cons, count_less p q xs i less (omega (arith, within)) fails passes)

-- of columns
pub columns_le : (p q : ℕ → Bool) → ((x : ℕ) → p x ≡ true → q x ≡ true) → count_by p columns ≤ count_by q columns
columns_le p q less = count_le p q columns less

pub columns_less : (p q : ℕ → Bool) (column : ℕ) → column < 10 → ((x : ℕ) → p x ≡ true → q x ≡ true) → p column ≡ false → q column ≡ true → count_by p columns + 1 ≤ count_by q columns
columns_less p q column within less fails passes = search (rules, count_less, column_is)
