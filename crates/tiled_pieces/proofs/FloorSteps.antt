-- Which cells have a floor, found from the lowest row up.
use Rattle.std.proofs.Common.{◌≡◌, ℕ, zero, suc, ◌+◌, ◌-◌, ◌*◌, ◌%◌, ◌^◌, ◌<◌, ◌≤◌, Bool, true, false, not, ◌&&◌, ◌||◌, ◌==◌, bit_and, bit_or, refl, ap, ap₂, ◌∙◌, inl, inr, arith, rules}
use Rattle.std.proofs.lemmas.Bool.{agree_below, agree_below_at, cases_eq, eq-eqb, ne_eqb}
use Rattle.std.proofs.Math.Bool.{and-false, or-false}
use Rattle.lane_board.specs.Field.{Field}
use Rattle.lane_board.specs.Lanes.{has_bit}
use Rattle.lane_board.proofs.CallerLemmas.{has_bit-and, has_bit-low, has_bit-or, has_bit-shifted_high, has_bit-shifted_low}
use Rattle.well.specs.Counts.{is_filled_row}
use Rattle.tiled_pieces.specs.Words.{has_floor, is_filled}

abbrev lowest : ℕ
lowest = 4740885567116192841985

-- the cells of one row
pub row_bit : (y x r : ℕ) → y < 8 → x ≤ 9 → r < 8 → has_bit (lowest * 2 ^ y % 2 ^ 128) (8 * x + r) ≡ (r == y)
unfolding has_bit
row_bit y x r here column low =
    agree_below_at (has_bit (lowest * 2 ^ y % 2 ^ 128)) (λ k. k % 8 == y) 80 (8 * x + r)
    (agree_below_at agrees (λ y. true) 8 y refl here) (omega arith)
    ∙ ap (λ k. k == y) {x = (8 * x + r) % 8} {y = r} (omega arith)
  where
    agrees : ℕ → Bool
    agrees y = agree_below (has_bit (lowest * 2 ^ y % 2 ^ 128)) (λ k. k % 8 == y) 80

-- a set moved up by one row
raised : (n x r : ℕ) → x ≤ 9 → r < 7 → has_bit (n * 2 % 2 ^ 128) (8 * x + suc r) ≡ has_bit n (8 * x + r)
raised n x r column low =
    has_bit-low (n * 2) 128 (8 * x + suc r) (omega arith)
    ∙ has_bit-shifted_high n 1 (8 * x + suc r) (omega arith)
    ∙ ap (has_bit n) {x = (8 * x + suc r) - 1} {y = 8 * x + r} (omega arith)

-- the floors of rows 0 to y are found, and above them those on filled cells
pub record Floored (E : Field) (floors y : ℕ) : Type 0 where
  pub found : (x r : ℕ) → x ≤ 9 → r < 8 → r ≤ y → has_bit floors (8 * x + r) ≡ has_floor E x r
  pub ahead : (x r : ℕ) → x ≤ 9 → r < 7 → y ≤ r → has_bit floors (8 * x + suc r) ≡ is_filled E x r

pub floors_start : (E : Field) (filled : ℕ) → ((x y : ℕ) → x ≤ 9 → y < 8 → has_bit filled (8 * x + y) ≡ is_filled E x y) →
    Floored E (bit_or (filled * 2 % 2 ^ 128) lowest) 0
unfolding has_floor
floors_start E filled is = record {
  found = λ x r column low at. found x r column (omega (arith, at));
  ahead = λ x r column low at.
      has_bit-or (filled * 2 % 2 ^ 128) lowest (8 * x + suc r)
      ∙ ap₂ ◌||◌ (raised filled x r column low ∙ is x r column (omega (arith, low))) (row_bit 0 x (suc r) (omega arith) column (omega (arith, low)) ∙ ne_eqb (suc r) 0 (λ e. omega (arith, e)))
      ∙ or-false (is_filled E x r);
}
  where
    or_true : (p q : Bool) → q ≡ true → (p || q) ≡ true
    or_true p q e = search rules

    found : (x r : ℕ) → x ≤ 9 → r ≡ 0 → has_bit (bit_or (filled * 2 % 2 ^ 128) lowest) (8 * x + r) ≡ has_floor E x r
    found x r column is_low = rw is_low (has_bit-or (filled * 2 % 2 ^ 128) lowest (8 * x + 0) ∙ or_true _ _ (row_bit 0 x 0 (omega arith) column (omega arith)))

-- the cells of a row that is gone pass their floors on
module _ (E : Field) (floors mask y : ℕ) (below : y < 7) (is : (x r : ℕ) → x ≤ 9 → r < 8 → has_bit mask (8 * x + r) ≡ ((r == y) && not (is_filled_row E r)))
    (floored : Floored E floors y) where
  abbrev added : ℕ
  added = bit_and floors mask * 2 % 2 ^ 128

  none_lowest : (x : ℕ) → x ≤ 9 → has_bit added (8 * x + 0) ≡ false
  none_lowest zero column = has_bit-low (bit_and floors mask * 2) 128 0 (omega arith) ∙ has_bit-shifted_low (bit_and floors mask) 1 0 (omega arith)
  none_lowest (suc x) column =
      has_bit-low (bit_and floors mask * 2) 128 (8 * suc x + 0) (omega (arith, column))
      ∙ has_bit-shifted_high (bit_and floors mask) 1 (8 * suc x + 0) (omega arith)
      ∙ ap (has_bit (bit_and floors mask)) {x = (8 * suc x + 0) - 1} {y = 8 * x + 7} (omega arith)
      ∙ has_bit-and floors mask (8 * x + 7)
      ∙ ap (λ b. has_bit floors (8 * x + 7) && b) (is x 7 (omega (arith, column)) (omega arith) ∙ ap (λ b. b && not (is_filled_row E 7)) (ne_eqb 7 y (λ e. omega (arith, e, below))))
      ∙ and-false (has_bit floors (8 * x + 7))

  passed : (x r : ℕ) → x ≤ 9 → r < 7 → has_bit added (8 * x + suc r) ≡ (has_bit floors (8 * x + r) && ((r == y) && not (is_filled_row E r)))
  passed x r column low = raised (bit_and floors mask) x r column low ∙ has_bit-and floors mask (8 * x + r) ∙ ap (λ b. has_bit floors (8 * x + r) && b) (is x r column (omega (arith, low)))

  next : (x r : ℕ) → x ≤ 9 → r < 7 → has_bit (bit_or floors added) (8 * x + suc r)
      ≡ (has_bit floors (8 * x + suc r) || (has_bit floors (8 * x + r) && ((r == y) && not (is_filled_row E r))))
  next x r column low = has_bit-or floors added (8 * x + suc r) ∙ ap (λ b. has_bit floors (8 * x + suc r) || b) (passed x r column low)

  elsewhere : (p q t s : Bool) → t ≡ false → (p || (q && (t && s))) ≡ p
  elsewhere p q t s other = search rules

  here : (p q t s f h : Bool) → t ≡ true → p ≡ f → q ≡ h → (p || (q && (t && s))) ≡ (f || (s && h))
  here p q t s f h is e g = search rules

  found_next : (x r : ℕ) → x ≤ 9 → r < 8 → r ≤ y + 1 → has_bit (bit_or floors added) (8 * x + r) ≡ has_floor E x r
  unfolding has_floor
  found_next x zero column low at = has_bit-or floors added (8 * x + 0) ∙ ap₂ ◌||◌ (floored.found x 0 column (omega arith) (omega arith)) (none_lowest x column)
  found_next x (suc r) column low at = elim (cases_eq r y) [
    | inl same ↦ next x r column (omega (arith, low)) ∙ here _ _ _ _ _ _ (eq-eqb r y same)
        (floored.ahead x r column (omega (arith, low)) (omega (arith, same))) (floored.found x r column (omega (arith, low)) (omega (arith, same)))
    | inr other ↦ next x r column (omega (arith, low)) ∙ elsewhere _ _ _ _ (ne_eqb r y other) ∙ floored.found x (suc r) column low (omega (arith, at, other))
  ]

  pub floors_next : Floored E (bit_or floors added) (y + 1)
  floors_next = record {
    found = found_next;
    ahead = λ x r column low at. next x r column low ∙ elsewhere _ _ _ _ (ne_eqb r y (λ e. omega (arith, e, at))) ∙ floored.ahead x r column low (omega (arith, at));
  }
