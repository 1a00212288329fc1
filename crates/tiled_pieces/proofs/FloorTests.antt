-- A cell has a floor exactly where the test says so, and the cells above another one.
use Rattle.std.proofs.Common.{◌≡◌, ◌⊎◌, ℕ, zero, suc, ◌+◌, ◌^◌, ◌<◌, ◌≤◌, Bool, true, false, not, ◌&&◌, ◌||◌, nat_lt, refl, sym, ap, ap₂, ◌∙◌, inl, inr, arith, rules}
use Rattle.std.proofs.lemmas.Bool.{and_from, and_parts, both_ways, cases_Bool, cases_eq, lt-ltb, ltb-true}
use Rattle.lane_board.specs.Field.{Field}
use Rattle.well.specs.Counts.{is_filled_row}
use Rattle.empty_cells.specs.Empties.{cells_by_column}
use Rattle.tiled_pieces.specs.Built.{HasFloor, IsGone}
use Rattle.tiled_pieces.specs.Words.{has_above, has_floor, is_filled}
use Rattle.tiled_pieces.proofs.RowTests.{gone_row, row_gone}

on_filled : (r e s : Bool) → r ≡ true → e ≡ false → ((r && not e) || s) ≡ true
on_filled r e s is none = search rules

on_gone : (f r s : Bool) → r ≡ false → s ≡ true → (f || (not r && s)) ≡ true
on_gone f r s none is = search rules

pub floor_test : (n x y : ℕ) → n < 2 ^ 80 → HasFloor (cells_by_column n) x y → has_floor (cells_by_column n) x y ≡ true
unfolding has_floor is_filled
floor_test n x zero small floor = refl
floor_test n x (suc y) small floor = elim (cases_Bool (is_filled_row (cells_by_column n) y)) [
  | inl has ↦ on_filled (is_filled_row (cells_by_column n) y) (cells_by_column n x y) _ has (floor y (omega arith) (λ w after before. absurd (omega (arith, after, before))))
  | inr none ↦ on_gone _ (is_filled_row (cells_by_column n) y) (has_floor (cells_by_column n) x y) none
      (floor_test n x y small (λ z below gone. floor z (omega (arith, below)) (λ w after before. passed z gone none w after before)))
]
  where
    passed : (z : ℕ) → ((w : ℕ) → z < w → w < y → IsGone (cells_by_column n) w) → is_filled_row (cells_by_column n) y ≡ false → (w : ℕ) → z < w → w < suc y → IsGone (cells_by_column n) w
    passed z gone none w after before = elim (cases_eq w y) [
      | inl same ↦ rw same (row_gone n y small none)
      | inr other ↦ gone w after (omega (arith, before, other))
    ]

is_one : (f g : Bool) → (f || g) ≡ true → (f ≡ true) ⊎ (g ≡ true)
is_one true g e = inl refl
is_one false g e = inr e

is_false : (b : Bool) → not b ≡ true → b ≡ false
is_false b e = search rules

pub floor_from : (n x y : ℕ) → n < 2 ^ 80 → has_floor (cells_by_column n) x y ≡ true → HasFloor (cells_by_column n) x y
unfolding has_floor is_filled
floor_from n x zero small has = λ z below gone. absurd (omega (arith, below))
floor_from n x (suc y) small has = λ z below gone. at (floor_from n x y small) z below gone (is_one _ _ has)
  where
    at : (has_floor (cells_by_column n) x y ≡ true → HasFloor (cells_by_column n) x y) → (z : ℕ) → z < suc y → ((w : ℕ) → z < w → w < suc y → IsGone (cells_by_column n) w) →
        ((is_filled_row (cells_by_column n) y && not (cells_by_column n x y)) ≡ true) ⊎ ((not (is_filled_row (cells_by_column n) y) && has_floor (cells_by_column n) x y) ≡ true) → cells_by_column n x z ≡ false
    at lower z below gone (inl filled) =
        let both = and_parts (is_filled_row (cells_by_column n) y) (not (cells_by_column n x y)) filled in
        elim (cases_eq z y) [
          | inl same ↦ rw same (is_false (cells_by_column n x y) both.1)
          | inr other ↦ absurd (both_ways _ (gone_row (cells_by_column n) y (gone y (omega (arith, below, other)) (omega arith))) both.0)
        ]
    at lower z below gone (inr passed) =
        let both = and_parts (not (is_filled_row (cells_by_column n) y)) (has_floor (cells_by_column n) x y) passed in
        elim (cases_eq z y) [
          | inl same ↦ rw same (row_gone n y small (is_false _ both.0) x)
          | inr other ↦ lower both.1 z (omega (arith, below, other)) (λ w after before. gone w after (omega (arith, before)))
        ]

-- a cell of a set above another cell
pub record Above (E : Field) (x y : ℕ) : Type 0 where
  pub z : ℕ
  pub above : y < z
  pub low : z < 8
  pub here : E x z ≡ true

pub above_some : (E : Field) (n x y : ℕ) → has_above E n x y ≡ true → Above E x y
unfolding has_above
above_some E zero x y has = absurd (both_ways _ refl has)
above_some E (suc n) x y has = elim (is_one (has_above E n x y) (nat_lt (y + suc n) 8 && E x (y + suc n)) has) [
  | inl nearer ↦ above_some E n x y nearer
  | inr last ↦
      let both = and_parts (nat_lt (y + suc n) 8) (E x (y + suc n)) last in
      record { z = y + suc n; above = omega arith; low = ltb-true _ _ both.0; here = both.1 }
]

or_left : (p q : Bool) → p ≡ true → (p || q) ≡ true
or_left p q e = search rules

or_right : (p q : Bool) → q ≡ true → (p || q) ≡ true
or_right p q e = search rules

pub above_has : (E : Field) (n x y z : ℕ) → y < z → z ≤ y + n → z < 8 → E x z ≡ true → has_above E n x y ≡ true
unfolding has_above
above_has E zero x y z above near low here = absurd (omega (arith, above, near))
above_has E (suc n) x y z above near low here = elim (cases_eq z (y + suc n)) [
  | inl same ↦ or_right (has_above E n x y) _ (and_from _ _ (lt-ltb (y + suc n) 8 (omega (arith, same, low))) (ap (E x) (sym same) ∙ here))
  | inr other ↦ or_left _ _ (above_has E n x y z above (omega (arith, near, other)) low here)
]

both_low : (t p q : Bool) → (t ≡ true → p ≡ q) → (t && p) ≡ (t && q)
both_low t p q same = search rules

-- sets that agree in the rows
pub above_same : (E F : Field) (n x y : ℕ) → ((z : ℕ) → z < 8 → E x z ≡ F x z) → has_above E n x y ≡ has_above F n x y
unfolding has_above
above_same E F zero x y same = refl
above_same E F (suc n) x y same =
    ap₂ ◌||◌ (above_same E F n x y same) (both_low (nat_lt (y + suc n) 8) _ _ (λ low. same (y + suc n) (ltb-true _ _ low)))
