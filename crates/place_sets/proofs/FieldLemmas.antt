-- Fields that lie on a board, and how the number of cells grows with the field.
use Rattle.std.proofs.Common.{◌≡◌, ℕ, zero, suc, ◌<◌, ◌≤◌, Bool, true, false, cond, count_by, List, [], ◌∷◌, refl, ap, ◌∙◌, arith, ◌⊎◌, rules}
use Rattle.std.proofs.Math.Path.{fun_ext}
use Rattle.std.specs.Bool.{beq}
use Rattle.std.specs.List.{list_all}
use Rattle.std.proofs.lemmas.Bool.{cases_Bool, cases_lt, and_from, false≢true}
use Rattle.std.proofs.lemmas.List.Sums.{sum_by-cons}
use Rattle.lane_board.specs.Field.{Field}
use Rattle.lane_board.specs.FullRows.{columns, is_full}
use Rattle.lane_board.specs.CellCount.{row_count, cell_count}
use Rattle.lane_board.proofs.CallerLemmas.{same_from_both, cell_from_full}

-- the field has its cells in columns 0 to 9 and rows 0 to n - 1
pub record LiesWithin (F : Field) (n : ℕ) : Type 0 where
  pub inside : (x y : ℕ) → F x y ≡ true → (x < 10) × (y < n)

-- G has each cell of F
pub record IsWithin (F G : Field) : Type 0 where
  pub has : (x y : ℕ) → F x y ≡ true → G x y ≡ true

pub same_fields : (F G : Field) → ((x y : ℕ) → F x y ≡ G x y) → F ≡ G
same_fields F G same = fun_ext (λ x. fun_ext (same x))

pub within_both : (F G : Field) → IsWithin F G → IsWithin G F → F ≡ G
within_both F G there back = same_fields F G (λ x y. same_from_both (F x y) (G x y) (there.has x y) (back.has x y))

module _ (p q : ℕ → Bool) (more : (k : ℕ) → p k ≡ true → q k ≡ true) where
  -- more pass the weaker test
  count-more : (ks : List ℕ) → count_by p ks ≤ count_by q ks
  count-more [] = omega arith
  count-more (k ∷ ks) = search (rules, (cases_Bool (p k)), (sum_by-cons (λ x. cond (p x) 1 0) k ks), (sum_by-cons (λ x. cond (q x) 1 0) k ks), (count-more ks))

  both_false : (k : ℕ) → p k ≡ false → q k ≡ false → beq (p k) (q k) ≡ true
  both_false k e f = ap (λ b. beq b (q k)) e ∙ ap (beq false) f

  both_true : (k : ℕ) → p k ≡ true → q k ≡ true → beq (p k) (q k) ≡ true
  both_true k e f = ap (λ b. beq b (q k)) e ∙ ap (beq true) f

  -- where no more pass, the tests agree
  count-same : (ks : List ℕ) → count_by q ks ≤ count_by p ks → list_all (λ k. beq (p k) (q k)) ks ≡ true
  count-same [] few = refl
  count-same (k ∷ ks) few =
      search (rules, (cases_Bool (p k)), and_from, (both_true k), (count-same ks), (sum_by-cons (λ x. cond (p x) 1 0) k ks), (sum_by-cons (λ x. cond (q x) 1 0) k ks), (cases_Bool (q k)), (count-more ks), sum_by-cons)

below_or_top : (y n : ℕ) → y < suc n → (y < n) ⊎ (y ≡ n)
below_or_top y n row = search (rules, cases_lt)

beq-same : (a b : Bool) → beq a b ≡ true → a ≡ b
beq-same a b e = search (rules, false≢true)

module _ (F G : Field) (within : IsWithin F G) where
  row_count-more : (y : ℕ) → row_count F y ≤ row_count G y
  unfolding row_count
  row_count-more y = count-more (λ x. F x y) (λ x. G x y) (λ x. within.has x y) columns

  row-same : (y : ℕ) → row_count G y ≤ row_count F y → (x : ℕ) → x < 10 → F x y ≡ G x y
  unfolding row_count is_full
  row-same y few x column = beq-same _ _ (cell_from_full (λ x y. beq (F x y) (G x y)) x y column (count-same (λ x. F x y) (λ x. G x y) (λ x. within.has x y) columns few))

  -- a field has no fewer cells than one within it
  pub cell_count-more : (n : ℕ) → cell_count F n ≤ cell_count G n
  unfolding cell_count
  cell_count-more zero = omega arith
  cell_count-more (suc n) = omega (arith, cell_count-more n, row_count-more n)

  cells-same : (n : ℕ) → cell_count G n ≤ cell_count F n → (x y : ℕ) → x < 10 → y < n → F x y ≡ G x y
  unfolding cell_count
  cells-same zero few x y column row = absurd (omega arith)
  cells-same (suc n) few x y column row = search (rules, (below_or_top y n row), (cells-same n), (row_count-more n), (row-same n), (cell_count-more n))

  -- and where it has no more, they are the same
  pub fields-same : (n : ℕ) → LiesWithin G n → cell_count G n ≤ cell_count F n → F ≡ G
  fields-same n lies few = search (rules, (within_both F G within), lies.inside, (cells-same n few))
