-- How many cells a field has, and how many are left after full rows are removed.
use Rattle.std.proofs.Common.{◌≡◌, ℕ, zero, suc, ◌+◌, ◌-◌, ◌*◌, ◌<◌, ◌≤◌, Bool, true, false, cond, count_by, List, [], ◌∷◌, length, refl, ap, ◌∙◌, inl, inr, arith, rules}
use Rattle.std.proofs.Math.Path.{fun_ext}
use Rattle.std.specs.List.{list_all}
use Rattle.std.proofs.lemmas.Bool.{cases_Bool, and_parts, and_from, false_from_ne_true}
use Rattle.std.proofs.lemmas.List.Sums.{sum_by-cons, count_by-le-length}
use Rattle.lane_board.specs.Field.{Field}
use Rattle.lane_board.specs.FullRows.{columns, is_full, full_below, without_full_rows}
use Rattle.lane_board.specs.CellCount.{row_count, cell_count}
use Rattle.lane_board.specs.RemovalLaws.{FullHasTen, TakesTenEach}
use Rattle.lane_board.proofs.Removal.{full_below-full, full_below-other, full_below-le, left_below, without_full_rows-full, row_left, rows_left}

abbrev pub count_of : Bool → ℕ
count_of b = cond b 1 0

-- each of the columns passes exactly where their number is the number of those that pass
all_from_count : (p : ℕ → Bool) (xs : List ℕ) → count_by p xs ≡ length xs → list_all p xs ≡ true
all_from_count p [] e = refl
all_from_count p (x ∷ xs) e = search (rules, (cases_Bool (p x)), and_from, (all_from_count p xs), (sum_by-cons (λ x. cond (p x) 1 0) x xs), (count_by-le-length p xs))

count_from_all : (p : ℕ → Bool) (xs : List ℕ) → list_all p xs ≡ true → count_by p xs ≡ length xs
count_from_all p [] all = refl
count_from_all p (x ∷ xs) all =
    let parts = and_parts (p x) (list_all p xs) all in
    omega (arith, sum_by-cons (λ x. cond (p x) 1 0) x xs, ap count_of parts.0, count_from_all p xs parts.1)

pub full_has_ten : FullHasTen
unfolding is_full row_count
full_has_ten F y = (count_from_all (λ x. F x y) columns, all_from_count (λ x. F x y) columns)

pub row_count-same : (F G : Field) (y z : ℕ) → ((x : ℕ) → F x y ≡ G x z) → row_count F y ≡ row_count G z
unfolding row_count
row_count-same F G y z same = ap (λ (p : ℕ → Bool). count_by p columns) (fun_ext same)

pub row_count-empty : (F : Field) (y : ℕ) → ((x : ℕ) → F x y ≡ false) → row_count F y ≡ 0
unfolding row_count
row_count-empty F y empty = ap (λ (p : ℕ → Bool). count_by p columns) (fun_ext empty)

pub cell_count-same : (F G : Field) (n : ℕ) → ((x y : ℕ) → y < n → F x y ≡ G x y) → cell_count F n ≡ cell_count G n
unfolding cell_count
cell_count-same F G zero same = refl
cell_count-same F G (suc n) same = omega (arith, cell_count-same F G n (λ x y below. same x y (omega arith)), row_count-same F G n n (λ x. same x n (omega arith)))

-- rows with no cell add nothing
pub cell_count-above : (F : Field) (n k : ℕ) → ((x y : ℕ) → n ≤ y → F x y ≡ false) → cell_count F (n + k) ≡ cell_count F n
unfolding cell_count
cell_count-above F n zero empty = ap (cell_count F) {y = n} (omega arith)
cell_count-above F n (suc k) empty =
    ap (cell_count F) {y = suc (n + k)} (omega arith)
    ∙ omega (arith, cell_count-above F n k empty, row_count-empty F (n + k) (λ x. empty x (n + k) (omega arith)))

-- what is left has its cells below row n less the number of full rows
left_above : (F : Field) (n x y : ℕ) → n ≤ y + full_below F n → without_full_rows F n x y ≡ false
left_above F n x y above = false_from_ne_true _ (λ left. omega (arith, left_below F n x y left, above))

takes_ten_below : (F : Field) (n m : ℕ) → m + full_below F n ≡ n → cell_count (without_full_rows F n) m + 10 * full_below F n ≡ cell_count F n
unfolding cell_count full_below
takes_ten_below F zero m at = search rules
takes_ten_below F (suc n) m at = elim (cases_Bool (is_full F n)) [
  | inl full ↦
      let one_more = full_below-full F n full in
      let before = takes_ten_below F n m (omega arith) in
      let same = ap (λ (G : Field). cell_count G m) (without_full_rows-full F n full) in
      omega (arith, before, same, one_more, (full_has_ten F n).0 full)
  | inr stays ↦ staying F n m stays (full_below-other F n stays) at (takes_ten_below F n)
]
  where
    staying : (F : Field) (n m : ℕ) → is_full F n ≡ false → full_below F (suc n) ≡ full_below F n → m + full_below F (suc n) ≡ suc n → ((k : ℕ) → k + full_below F n ≡ n → cell_count (without_full_rows F n) k + 10 * full_below F n ≡ cell_count F n) → cell_count (without_full_rows F (suc n)) m + 10 * full_below F (suc n) ≡ cell_count F (suc n)
    staying F n zero stays same at before = absurd (omega (arith, full_below-le F n))
    staying F n (suc k) stays same at before = search (rules, (cell_count-same (without_full_rows F (suc n)) (without_full_rows F n)), (rows_left F n), (row_count-same (without_full_rows F (suc n)) F), (row_left F n))

pub takes_ten_each : TakesTenEach
takes_ten_each F n =
    search (rules, (full_below-le F n), (cell_count-above (without_full_rows F n) (n - full_below F n) (full_below F n)), (left_above F n), (takes_ten_below F n (n - full_below F n)))

pub cell_count-le : (F : Field) (n : ℕ) → cell_count F n ≤ 10 * n
unfolding cell_count row_count
cell_count-le F zero = omega arith
cell_count-le F (suc n) = omega (arith, cell_count-le F n, count_by-le-length (λ x. F x n) columns)
