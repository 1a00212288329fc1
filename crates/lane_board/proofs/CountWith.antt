-- How many cells a field has with one more cell, or with an empty row above.
use Rattle.std.proofs.Common.{◌≡◌, ◌≢◌, ℕ, zero, suc, ◌+◌, ◌<◌, Bool, true, false, count_by, List, [], ◌∷◌, length, get_or, refl, ap, arith, rules}
use Rattle.std.proofs.lemmas.Bool.{and_from, and_left, and_right, or_right, cases_eq, eq-eqb, ne_eqb}
use Rattle.std.proofs.lemmas.List.Sums.{sum_by-cons}
use Rattle.lane_board.specs.Field.{Field, with_cell}
use Rattle.lane_board.specs.CellCount.{row_count, cell_count}
use Rattle.lane_board.proofs.CellCounts.{count_of, cell_count-same, row_count-same}
use Rattle.lane_board.proofs.CellTests.{or_none}
use Rattle.lane_board.proofs.RowTables.{column_is}

-- lists of which each element passes both tests or neither
count_same : (p q : ℕ → Bool) (xs : List ℕ) → ((k : ℕ) → k < length xs → q (get_or xs k 0) ≡ p (get_or xs k 0)) → count_by q xs ≡ count_by p xs
count_same p q [] same = refl
count_same p q (x ∷ xs) same =
    omega (arith, sum_by-cons (λ x. count_of (q x)) x xs, sum_by-cons (λ x. count_of (p x)) x xs, ap count_of (same 0 (omega arith)), count_same p q xs (λ k below. same (suc k) (omega arith)))

-- one element passes the second test alone
count_one_more : (p q : ℕ → Bool) (xs : List ℕ) (i : ℕ) → i < length xs → p (get_or xs i 0) ≡ false → q (get_or xs i 0) ≡ true →
    ((k : ℕ) → k < length xs → k ≢ i → q (get_or xs k 0) ≡ p (get_or xs k 0)) → count_by q xs ≡ count_by p xs + 1
count_one_more p q [] i within fails passes same = absurd (omega arith)
count_one_more p q (x ∷ xs) zero within fails passes same =
    omega (arith, sum_by-cons (λ x. count_of (q x)) x xs, sum_by-cons (λ x. count_of (p x)) x xs, ap count_of fails, ap count_of passes, count_same p q xs (λ k below. same (suc k) (omega arith) (λ e. omega (arith, e))))
count_one_more p q (x ∷ xs) (suc i) within fails passes same =
    omega (arith, sum_by-cons (λ x. count_of (q x)) x xs, sum_by-cons (λ x. count_of (p x)) x xs, ap count_of (same 0 (omega arith) (λ e. omega (arith, e))), count_one_more p q xs i (omega arith) fails passes (λ k below other. same (suc k) (omega arith) (λ e. other (omega (arith, e)))))

row_count-with : (F : Field) (column row : ℕ) → column < 10 → F column row ≡ false → row_count (with_cell F column row) row ≡ row_count F row + 1
unfolding row_count with_cell
row_count-with F column row within empty =
    search (rules, count_one_more, column_is, or_right, and_from, eq-eqb, or_none, and_left, ne_eqb)

row_count-elsewhere : (F : Field) (column row y : ℕ) → y ≢ row → row_count (with_cell F column row) y ≡ row_count F y
unfolding with_cell
row_count-elsewhere F column row y other = row_count-same (with_cell F column row) F y y (λ x. or_none _ _ (and_right _ _ (ne_eqb y row other)))

-- a cell that was not there is one more
pub cell_count-with : (F : Field) (column row n : ℕ) → column < 10 → row < n → F column row ≡ false → cell_count (with_cell F column row) n ≡ cell_count F n + 1
unfolding cell_count with_cell
cell_count-with F column row zero within below empty = absurd (omega arith)
cell_count-with F column row (suc n) within below empty =
    search (rules, (cases_eq row n), cell_count-same, or_none, and_right, ne_eqb, row_count-with, (cell_count-with F column row n within), (row_count-elsewhere F column row n))
