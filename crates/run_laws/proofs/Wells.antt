-- A well for each field that lies in columns 0 to 9 and rows 0 to 22.
use Rattle.std.proofs.Common.{◌≡◌, ℕ, zero, suc, ◌+◌, ◌^◌, ◌<◌, ◌≤◌, ◌≢◌, Bool, true, false, cond, ◌||◌, ◌==◌, List, [], ◌∷◌, length, bit_or, refl, ap, sym, subst, ◌∙◌, arith, inl, inr, rules}
use Rattle.std.specs.Prelude.{slice_index}
use Rattle.std.proofs.Math.Path.{fun_ext}
use Rattle.std.proofs.lemmas.Bool.{cases_Bool, cases_lt, false_from_ne_true}
use Rattle.std.proofs.lemmas.Nat.{or_lt, pow_below}
use Rattle.std.proofs.lemmas.Nat.Bits.{bit_at-pow_other, bit_at-pow_same}
use Rattle.lane_board.specs.declared.board.LaneBoard.{LaneBoard}
use Rattle.lane_board.specs.Board.{field_of}
use Rattle.lane_board.specs.Field.{Field}
use Rattle.lane_board.specs.Lanes.{cells_of_bits, has_bit}
use Rattle.lane_board.proofs.CallerLemmas.{has_bit-or, has_bit-past, has_bit-zero}
use Rattle.well.specs.declared.well.Well.{Well}
use Rattle.well.specs.Well.{filled}

-- a row of bits, of which those below k are set where the test says so
row_below : (ℕ → Bool) → ℕ → ℕ
row_below test zero = 0
row_below test (suc k) = cond (test k) (bit_or (row_below test k) (2 ^ k)) (row_below test k)

module _ (test : ℕ → Bool) where
  row_small : (k w : ℕ) → k ≤ w → row_below test k < 2 ^ w
  unfolding row_below
  row_small zero w within = pow_below_one w
    where
      pow_below_one : (w : ℕ) → 0 < 2 ^ w
      pow_below_one zero = omega arith
      pow_below_one (suc w) = let more = pow_below_one w in omega (arith, more)
  row_small (suc k) w within = elim (test k) as (λ b. cond b (bit_or (row_below test k) (2 ^ k)) (row_below test k) < 2 ^ w) [
    | true ↦ or_lt w (row_below test k) (2 ^ k) (row_small k w (omega (arith, within))) (pow_below k w (omega (arith, within)))
    | false ↦ row_small k w (omega (arith, within))
  ]

  with_bit : (k x : ℕ) → x ≢ k → has_bit (bit_or (row_below test k) (2 ^ k)) x ≡ has_bit (row_below test k) x
  unfolding has_bit
  with_bit k x other =
      has_bit-or (row_below test k) (2 ^ k) x
      ∙ ap (λ b. has_bit (row_below test k) x || (b == 1)) (bit_at-pow_other k x other)
      ∙ no_more (has_bit (row_below test k) x)
    where
      no_more : (b : Bool) → (b || false) ≡ b
      no_more true = refl
      no_more false = refl

  last_bit : (k : ℕ) → has_bit (bit_or (row_below test k) (2 ^ k)) k ≡ true
  unfolding has_bit
  last_bit k =
      has_bit-or (row_below test k) (2 ^ k) k
      ∙ ap (λ b. has_bit (row_below test k) k || (b == 1)) (bit_at-pow_same k)
      ∙ always (has_bit (row_below test k) k)
    where
      always : (b : Bool) → (b || true) ≡ true
      always true = refl
      always false = refl

  -- each bit is that of the test
  in_row : (k x : ℕ) → x < k → has_bit (row_below test k) x ≡ test x
  unfolding row_below
  in_row zero x below = absurd (omega (arith, below))
  in_row (suc k) x below = elim (cases_Bool (test k)) [
    | inl set ↦ elim (cases_lt x k) [
      | inl before ↦ ap (λ b. has_bit (cond b (bit_or (row_below test k) (2 ^ k)) (row_below test k)) x) set ∙ with_bit k x (λ same. omega (arith, same, before)) ∙ in_row k x before
      | inr from ↦
          let last : x ≡ k = omega (arith, below, from) in
          ap (λ b. has_bit (cond b (bit_or (row_below test k) (2 ^ k)) (row_below test k)) x) set ∙ ap (has_bit (bit_or (row_below test k) (2 ^ k))) last ∙ last_bit k ∙ sym (ap test last ∙ set)
    ]
    | inr clear ↦ elim (cases_lt x k) [
      | inl before ↦ ap (λ b. has_bit (cond b (bit_or (row_below test k) (2 ^ k)) (row_below test k)) x) clear ∙ in_row k x before
      | inr from ↦
          let last : x ≡ k = omega (arith, below, from) in
          ap (λ b. has_bit (cond b (bit_or (row_below test k) (2 ^ k)) (row_below test k)) x) clear ∙ has_bit-past (row_below test k) k x (row_small k k (omega arith)) (omega (arith, from)) ∙ sym (ap test last ∙ clear)
    ]
  ]

-- ---- the rows of a field

rows_from : Field → ℕ → ℕ → List ℕ
rows_from F y zero = []
rows_from F y (suc count) = row_below (λ x. F x y) 10 ∷ rows_from F (y + 1) count

rows_count : (F : Field) (y count : ℕ) → length (rows_from F y count) ≡ count
unfolding rows_from
rows_count F y zero = refl
rows_count F y (suc count) = omega (arith, rows_count F (y + 1) count)

row_at : (F : Field) (y count k : ℕ) → k < count → slice_index (rows_from F y count) k ≡ row_below (λ x. F x (y + k)) 10
unfolding rows_from
row_at F y zero k below = absurd (omega (arith, below))
row_at F y (suc count) zero below = ap (λ n. row_below (λ x. F x n) 10) (omega arith)
row_at F y (suc count) (suc k) below = search (rules, row_below, row_at F (y + 1) count k (omega (arith, below)))

no_row : (F : Field) (y count k : ℕ) → count ≤ k → slice_index (rows_from F y count) k ≡ 0
unfolding rows_from
no_row F y zero k past = refl
no_row F y (suc count) zero past = absurd (omega (arith, past))
no_row F y (suc count) (suc k) past = no_row F (y + 1) count k (omega (arith, past))

-- a field whose cells lie in the well
pub record LiesInWell (F : Field) : Type 0 where
  pub column : (x y : ℕ) → F x y ≡ true → x < 10
  pub row : (x y : ℕ) → F x y ≡ true → y < 23

module _ (F : Field) (lies : LiesInWell F) where
  rows : List ℕ
  rows = rows_from F 0 24

  within_row : (x y : ℕ) → has_bit (row_below (λ x. F x y) 10) x ≡ F x y
  within_row x y = elim (cases_lt x 10) [
    | inl before ↦ in_row (λ x. F x y) 10 x before
    | inr past ↦
        has_bit-past (row_below (λ x. F x y) 10) 10 x (row_small (λ x. F x y) 10 10 (omega arith)) (omega (arith, past))
        ∙ sym (false_from_ne_true (F x y) (λ is. let inside = lies.column x y is in omega (arith, inside, past)))
  ]

  same_cells : (x y : ℕ) → cells_of_bits rows x y ≡ F x y
  unfolding cells_of_bits rows
  same_cells x y = elim (cases_lt y 24) [
    | inl before ↦ ap (λ n. has_bit n x) (row_at F 0 24 y before ∙ ap (λ n. row_below (λ x. F x n) 10) (omega arith)) ∙ within_row x y
    | inr past ↦
        ap (λ n. has_bit n x) (no_row F 0 24 y (omega (arith, past))) ∙ has_bit-zero x
        ∙ sym (false_from_ne_true (F x y) (λ is. let inside = lies.row x y is in omega (arith, inside, past)))
  ]

  same_field : cells_of_bits rows ≡ F
  same_field = fun_ext (λ x. fun_ext (λ y. same_cells x y))

  small_row : (y : ℕ) → slice_index rows y < 1024
  unfolding rows
  small_row y = elim (cases_lt y 24) [
    | inl before ↦ subst (λ n. n < 1024) (sym (row_at F 0 24 y before)) (row_small (λ x. F x (0 + y)) 10 10 (omega arith))
    | inr past ↦ subst (λ n. n < 1024) (sym (no_row F 0 24 y (omega (arith, past)))) (omega arith)
  ]

  board : LaneBoard 24
  unfolding rows
  board = record { rows = rows; in_columns = small_row; size = rows_count F 0 24; lane_count = refl }

  board_is : field_of board ≡ F
  unfolding field_of board
  board_is = same_field

  pub well-made : (well : Well) × (filled well ≡ F)
  unfolding filled
  well-made =
      (record { board = board; top_is_empty = λ x. ap (λ G. G x 23) board_is ∙ false_from_ne_true (F x 23) (λ is. let inside = lies.row x 23 is in omega (arith, inside)) }, board_is)
