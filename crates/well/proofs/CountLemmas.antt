-- The lowest row of a kind is the first that a search finds.
use Rattle.std.proofs.Common.{◌≡◌, ℕ, zero, suc, ◌+◌, ◌<◌, ◌≤◌, ◌^◌, nat_le, Bool, true, false, not, ◌&&◌, eqb, get_or, Some, None, w16, w32, refl, sym, ap, ◌∙◌, inl, inr, arith, rules}
use Rattle.std.specs.List.{find, range_with_len}
use Rattle.std.specs.Int.{trailing_zeros}
use Rattle.std.proofs.lemmas.Bool.{cases_eq, cond-true, cond-false, and_left, and_right, and_from, eq-eqb, ne_eqb, leb-true, le-leb, cases_Bool}
use Rattle.std.proofs.lemmas.List.Folds.{list_any_at, list_any_none}
use Rattle.std.proofs.lemmas.Nat.Bits.{bit_at-trailing_zeros}
use Rattle.lane_board.specs.Field.{Field}
use Rattle.lane_board.specs.FullRows.{columns, is_full}
use Rattle.lane_board.specs.Lanes.{has_bit}
use Rattle.lane_board.proofs.CallerLemmas.{true_from_bit, false_from_bit, has_bit-zero, column_is}
use Rattle.well.specs.Counts.{is_filled_row, lowest_full, lowest_filled_from}

first_in_range : (p : ℕ → Bool) (n from at : ℕ) → from ≤ at → at < from + n → p at ≡ true → ((k : ℕ) → from ≤ k → k < at → p k ≡ false) → find p (range_with_len from n) ≡ Some at
first_in_range p zero from at low high here before = absurd (omega arith)
first_in_range p (suc n) from at low high here before =
    search (rules, cases_eq, cond-true, cond-false, (first_in_range p n (from + 1) at))

none_in_range : (p : ℕ → Bool) (n from : ℕ) → ((k : ℕ) → from ≤ k → k < from + n → p k ≡ false) → find p (range_with_len from n) ≡ None
none_in_range p zero from none = refl
none_in_range p (suc n) from none = cond-false (p from) (Some from) _ (none from (omega arith) (omega arith)) ∙ none_in_range p n (from + 1) (λ k above below. none k (omega arith) (omega arith))

-- the lowest full row by the bits of a mask
pub lowest_full_none : (F : Field) (full : ℕ) → full ≡ 0 → has_bit full ≡ is_full F → lowest_full F ≡ None
unfolding lowest_full
lowest_full_none F full none bits = none_in_range (λ y. is_full F y) 23 0 (λ k above below. sym (ap (λ f. f k) bits) ∙ ap (λ n. has_bit n k) none ∙ has_bit-zero k)

pub lowest_full_some : (F : Field) (full : ℕ) → 0 < full → full < 2 ^ 32 → has_bit full ≡ is_full F → ((y : ℕ) → is_full F y ≡ true → y < 23) → Some (trailing_zeros w32 full) ≡ lowest_full F
unfolding lowest_full
lowest_full_some F full some small bits within =
    let lowest = bit_at-trailing_zeros w32 full some small in
    let here : is_full F (trailing_zeros w32 full) ≡ true = sym (ap (λ f. f (trailing_zeros w32 full)) bits) ∙ true_from_bit full _ lowest.1 in
    sym (first_in_range (λ y. is_full F y) 23 0 (trailing_zeros w32 full) (omega arith) (within _ here) here (λ k above below. sym (ap (λ f. f k) bits) ∙ false_from_bit full k (lowest.2 k below)))

-- a row holds a cell where its number is not 0
pub row_is_filled : (F : Field) (y row : ℕ) → row < 2 ^ 16 → ((x : ℕ) → F x y ≡ true → x < 10) → has_bit row ≡ (λ x. F x y) → not (eqb row 0) ≡ is_filled_row F y
unfolding is_filled_row
row_is_filled F y row small within bits = elim (cases_eq row 0) [
  | inl none ↦ ap not (eq-eqb row 0 none) ∙ sym (list_any_none (λ x. F x y) columns (λ k d below. sym (ap (λ f. f (get_or columns k d)) bits) ∙ ap (λ n. has_bit n (get_or columns k d)) none ∙ has_bit-zero (get_or columns k d)))
  | inr some ↦
      let lowest = bit_at-trailing_zeros w16 row (omega (arith, some)) small in
      let at = trailing_zeros w16 row in
      let here : F at y ≡ true = sym (ap (λ f. f at) bits) ∙ true_from_bit row at lowest.1 in
      ap not (ne_eqb row 0 some) ∙ sym (list_any_at (λ x. F x y) columns at 0 (within at here) (ap (λ x. F x y) (column_is at (within at here)) ∙ here))
]

-- the lowest row with a cell from a height on
pub lowest_filled_some : (F : Field) (height y : ℕ) → height ≤ y → y < 23 → is_filled_row F y ≡ true → ((k : ℕ) → height ≤ k → k < y → is_filled_row F k ≡ false) → Some y ≡ lowest_filled_from F height
unfolding lowest_filled_from
lowest_filled_some F height y above within here before = sym (first_in_range (λ y. nat_le height y && is_filled_row F y) 23 0 y (omega arith) within (and_from _ _ (le-leb height y above) here) lower)
  where
    lower : (k : ℕ) → 0 ≤ k → k < y → (nat_le height k && is_filled_row F k) ≡ false
    lower k low below = search (rules, cases_Bool, and_right, leb-true, and_left)

pub lowest_filled_none : (F : Field) (height : ℕ) → ((k : ℕ) → height ≤ k → k < 23 → is_filled_row F k ≡ false) → None ≡ lowest_filled_from F height
unfolding lowest_filled_from
lowest_filled_none F height none = search (rules, none_in_range, cases_Bool, and_right, leb-true, and_left)
