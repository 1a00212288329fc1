-- Sets of pieces as numbers, and what one piece more changes.
use Rattle.std.proofs.Common.{◌≡◌, ℕ, zero, suc, ◌+◌, ◌/◌, ◌^◌, ◌<◌, ◌≤◌, Bool, true, false, not, ◌&&◌, ◌||◌, ◌==◌, nat_eq, if◌then◌else◌, bit_and, bit_or, List, refl, sym, ap, ap₂, ◌∙◌, inl, inr, arith, rules}
use Rattle.std.proofs.Math.Path.{fun_ext}
use Rattle.std.proofs.Math.Bool.{or-false}
use Rattle.std.proofs.lemmas.Bool.{both_ways, cases_eq, eq-eqb, ne_eqb}
use Rattle.std.proofs.lemmas.Nat.{le_or_l, or_lt, pow_below}
use Rattle.std.proofs.lemmas.Nat.Bits.{shr_and_one}
use Rattle.lane_board.specs.Field.{Field, difference}
use Rattle.lane_board.specs.Lanes.{has_bit}
use Rattle.lane_board.proofs.CallerLemmas.{has_bit-or, has_bit-pow}
use Rattle.tiled_pieces.specs.declared.laid.Laid.{Laid}
use Rattle.tiled_pieces.specs.Orders.{cells_at, left_after, number_after, weight_at}

pub has_set : (set index : ℕ) → nat_eq (bit_and (set / 2 ^ index) 1) 1 ≡ has_bit set index
unfolding has_bit
has_set set index = ap (λ b. b == 1) (shr_and_one set index)

-- the set with one piece more
joined_bit : (set i k : ℕ) → has_bit (bit_or set (2 ^ i)) k ≡ (has_bit set k || (k == i))
joined_bit set i k = has_bit-or set (2 ^ i) k ∙ ap (λ b. has_bit set k || b) (has_bit-pow i k)

joined_other : (set i k : ℕ) → (k ≡ i → ⊥) → has_bit (bit_or set (2 ^ i)) k ≡ has_bit set k
joined_other set i k other = joined_bit set i k ∙ ap (λ b. has_bit set k || b) (ne_eqb k i other) ∙ or-false (has_bit set k)

pub joined_has : (set i : ℕ) → has_bit (bit_or set (2 ^ i)) i ≡ true
joined_has set i = joined_bit set i i ∙ is_or (has_bit set i) (i == i) (eq-eqb i i refl)
  where
    is_or : (p q : Bool) → q ≡ true → (p || q) ≡ true
    is_or p q e = search rules

pub joined_above : (set i : ℕ) → has_bit set i ≡ false → set < bit_or set (2 ^ i)
joined_above set i unset = elim (cases_eq set (bit_or set (2 ^ i))) [
  | inl same ↦ absurd (both_ways _ unset (ap (λ n. has_bit n i) same ∙ joined_has set i))
  | inr other ↦ omega (arith, other, le_or_l set (2 ^ i))
]

pub joined_below : (set i n : ℕ) → set < 2 ^ n → i < n → bit_or set (2 ^ i) < 2 ^ n
joined_below set i n small known = or_lt n set (2 ^ i) small (pow_below i n known)

module _ (pieces : List Laid) (E : Field) (set i : ℕ) (unset : has_bit set i ≡ false) where
  abbrev joined : ℕ
  joined = bit_or set (2 ^ i)

  left_same : (j : ℕ) → j ≤ i → left_after pieces E joined j ≡ left_after pieces E set j
  unfolding left_after
  left_same zero within = refl
  left_same (suc j) within =
      ap₂ (λ (b : Bool) (L : Field). if b then difference L (cells_at pieces j) else L) (joined_other set i j (λ e. omega (arith, e, within))) (left_same j (omega (arith, within)))

  swapped : (L P Q : Field) → difference (difference L P) Q ≡ difference (difference L Q) P
  unfolding difference
  swapped L P Q = fun_ext (λ x. fun_ext (λ y. both (L x y) (P x y) (Q x y)))
    where
      both : (a b c : Bool) → ((a && not b) && not c) ≡ ((a && not c) && not b)
      both a b c = search rules

  through : (b : Bool) (L P Q : Field) → (if b then difference (difference L P) Q else difference L P) ≡ difference (if b then difference L Q else L) P
  through true L P Q = swapped L P Q
  through false L P Q = refl

  pub left_joined : (j : ℕ) → i < j → left_after pieces E joined j ≡ difference (left_after pieces E set j) (cells_at pieces i)
  unfolding left_after
  left_joined zero past = absurd (omega (arith, past))
  left_joined (suc j) past = elim (cases_eq i j) [
    | inl same ↦
        rw (sym same)
        (ap₂ (λ (b : Bool) (L : Field). if b then difference L (cells_at pieces i) else L) (joined_has set i) (left_same i (omega arith))
        ∙ ap (λ (b : Bool). difference (if b then difference (left_after pieces E set i) (cells_at pieces i) else left_after pieces E set i) (cells_at pieces i)) (sym unset))
    | inr other ↦
        ap₂ (λ (b : Bool) (L : Field). if b then difference L (cells_at pieces j) else L) (joined_other set i j (λ e. other (sym e))) (left_joined j (omega (arith, past, other)))
        ∙ through (has_bit set j) (left_after pieces E set j) (cells_at pieces i) (cells_at pieces j)
  ]

  number_same : (j : ℕ) → j ≤ i → number_after pieces joined j ≡ number_after pieces set j
  unfolding number_after
  number_same zero within = refl
  number_same (suc j) within =
      ap₂ (λ (b : Bool) n. n + (if b then weight_at pieces j else 0)) (joined_other set i j (λ e. omega (arith, e, within))) (number_same j (omega (arith, within)))

  pub number_joined : (j : ℕ) → i < j → number_after pieces joined j ≡ number_after pieces set j + weight_at pieces i
  unfolding number_after
  number_joined zero past = absurd (omega (arith, past))
  number_joined (suc j) past = elim (cases_eq i j) [
    | inl same ↦
        rw (sym same)
        (ap₂ (λ (b : Bool) n. n + (if b then weight_at pieces i else 0)) (joined_has set i) (number_same i (omega arith))
        ∙ omega arith
        ∙ ap (λ (b : Bool). (number_after pieces set i + (if b then weight_at pieces i else 0)) + weight_at pieces i) (sym unset))
    | inr other ↦
        ap₂ (λ (b : Bool) n. n + (if b then weight_at pieces j else 0)) (joined_other set i j (λ e. other (sym e))) (number_joined j (omega (arith, past, other)))
        ∙ omega arith
  ]

-- the cells of the pieces of a set are not left
pub taken : (pieces : List Laid) (E : Field) (set i j x y : ℕ) → has_bit set i ≡ true → i < j → left_after pieces E set j x y ≡ true → cells_at pieces i x y ≡ false
unfolding left_after difference
taken pieces E set i zero x y has past here = absurd (omega (arith, past))
taken pieces E set i (suc j) x y has past here = elim (cases_eq i j) [
  | inl same ↦ without_it (has_bit set j) (left_after pieces E set j) (ap (has_bit set) (sym same) ∙ has) (ap (λ k. cells_at pieces k x y) same) here
  | inr other ↦ taken pieces E set i j x y has (omega (arith, past, other)) (was_left (has_bit set j) (left_after pieces E set j) here)
]
  where
    is_not : (a b : Bool) → (a && not b) ≡ true → b ≡ false
    is_not a b e = search rules

    first : (a b : Bool) → (a && not b) ≡ true → a ≡ true
    first a b e = search rules

    without_it : (b : Bool) (L : Field) → b ≡ true → cells_at pieces i x y ≡ cells_at pieces j x y → (if b then difference L (cells_at pieces j) else L) x y ≡ true → cells_at pieces i x y ≡ false
    without_it true L is same here = same ∙ is_not (L x y) (cells_at pieces j x y) here
    without_it false L is same here = absurd (both_ways _ refl is)

    was_left : (b : Bool) (L : Field) → (if b then difference L (cells_at pieces j) else L) x y ≡ true → L x y ≡ true
    was_left true L here = first (L x y) (cells_at pieces j x y) here
    was_left false L here = here
