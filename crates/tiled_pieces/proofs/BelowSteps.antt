-- The cells below those of a set, for twice as many rows at each step.
use Rattle.std.proofs.Common.{◌≡◌, ℕ, zero, suc, ◌+◌, ◌*◌, ◌/◌, ◌^◌, ◌<◌, ◌≤◌, Bool, true, false, ◌&&◌, ◌||◌, nat_lt, bit_and, bit_or, sym, ap, ap₂, ◌∙◌, inl, inr, arith, rules}
use Rattle.std.proofs.lemmas.Bool.{cases_lt, le-ltb, lt-ltb, ltb-true}
use Rattle.lane_board.specs.Field.{Field}
use Rattle.lane_board.specs.Lanes.{has_bit}
use Rattle.lane_board.proofs.CallerLemmas.{has_bit-and, has_bit-or, has_bit-past, has_bit-shifted_right}
use Rattle.empty_cells.specs.Empties.{cells_by_column}
use Rattle.empty_cells.proofs.CallerLemmas.{ones}
use Rattle.tiled_pieces.specs.Words.{has_above}

row_kept : (by y : ℕ) → has_bit (255 / 2 ^ by) y ≡ nat_lt (y + by) 8
row_kept by y = has_bit-shifted_right 255 by y ∙ elim (cases_lt (by + y) 8) [
  | inl low ↦ ones (by + y) low ∙ sym (lt-ltb (y + by) 8 (omega (arith, low)))
  | inr high ↦ has_bit-past 255 8 (by + y) (omega arith) high ∙ sym (le-ltb (y + by) 8 (omega (arith, high)))
]

swapped : (p q r s : Bool) → p ≡ r → q ≡ s → (p && q) ≡ (s && r)
swapped p q r s e f = search rules

-- a set moved down within eight rows
pub lowered_bit : (n mask by x y : ℕ) → has_bit mask (8 * x + y) ≡ has_bit (255 / 2 ^ by) y →
    has_bit (bit_and (n / 2 ^ by) mask) (8 * x + y) ≡ (nat_lt (y + by) 8 && has_bit n (8 * x + (y + by)))
lowered_bit n mask by x y kept =
    has_bit-and (n / 2 ^ by) mask (8 * x + y)
    ∙ swapped _ _ _ _ (has_bit-shifted_right n by (8 * x + y) ∙ ap (has_bit n) {x = by + (8 * x + y)} {y = 8 * x + (y + by)} (omega arith)) (kept ∙ row_kept by y)

nearer : (p q r s t : Bool) → (s ≡ true → q ≡ true) → ((p || (q && r)) || (s && t)) ≡ (p || (q && (r || (s && t))))
nearer p q r s t within = search rules

none_more : (p q : Bool) → p ≡ (p || (q && false))
none_more p q = search rules

-- those within some rows above a cell, and those above them
above_more : (E : Field) (b a x y : ℕ) → has_above E (b + a) x y ≡ (has_above E a x y || (nat_lt (y + a) 8 && has_above E b x (y + a)))
unfolding has_above
above_more E zero a x y = ap (λ k. has_above E k x y) {x = 0 + a} {y = a} (omega arith) ∙ none_more (has_above E a x y) (nat_lt (y + a) 8)
above_more E (suc b) a x y =
    ap (λ k. has_above E k x y) {x = suc b + a} {y = suc (b + a)} (omega arith)
    ∙ ap (λ p. p || (nat_lt (y + suc (b + a)) 8 && E x (y + suc (b + a)))) (above_more E b a x y)
    ∙ ap (λ k. (has_above E a x y || (nat_lt (y + a) 8 && has_above E b x (y + a))) || (nat_lt k 8 && E x k)) {x = y + suc (b + a)} {y = (y + a) + suc b} (omega arith)
    ∙ nearer (has_above E a x y) (nat_lt (y + a) 8) (has_above E b x (y + a)) (nat_lt ((y + a) + suc b) 8) (E x ((y + a) + suc b))
    (λ within. lt-ltb (y + a) 8 (omega (arith, ltb-true _ _ within)))

-- a set of the cells that have one of another set in the next rows above them
pub record IsBelow (n rows m : ℕ) : Type 0 where
  pub bits : (x y : ℕ) → x ≤ 9 → y < 8 → has_bit m (8 * x + y) ≡ has_above (cells_by_column n) rows x y

abbrev pub IsLowered : ℕ → ℕ → ℕ → Type 0
IsLowered n by m = (x y : ℕ) → x ≤ 9 → y < 8 → has_bit m (8 * x + y) ≡ (nat_lt (y + by) 8 && has_bit n (8 * x + (y + by)))

once : (t b : Bool) → (t && b) ≡ (false || (t && (t && b)))
once t b = search rules

pub first_below : (n m : ℕ) → IsLowered n 1 m → IsBelow n 1 m
unfolding has_above cells_by_column
first_below n m lowered = record { bits = λ x y column low. lowered x y column low ∙ once (nat_lt (y + 1) 8) (has_bit n (8 * x + (y + 1))) }

where_lower : (t p q : Bool) → (t ≡ true → p ≡ q) → (t && p) ≡ (t && q)
where_lower t p q same = search rules

pub twice_below : (n rows m moved : ℕ) → IsBelow n rows m → IsLowered m rows moved → IsBelow n (rows + rows) (bit_or m moved)
twice_below n rows m moved is lowered = record {
  bits = λ x y column low.
      has_bit-or m moved (8 * x + y)
      ∙ ap₂ ◌||◌ (is.bits x y column low)
      (lowered x y column low ∙ where_lower (nat_lt (y + rows) 8) _ _ (λ within. is.bits x (y + rows) column (ltb-true _ _ within)))
      ∙ sym (above_more (cells_by_column n) rows rows x y);
}
