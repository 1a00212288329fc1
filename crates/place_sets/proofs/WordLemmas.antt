-- The bits of words after shifts and masks.
use Rattle.std.proofs.Common.{◌≡◌, ℕ, ◌+◌, ◌-◌, ◌*◌, ◌/◌, ◌%◌, ◌^◌, ◌<◌, ◌≤◌, Bool, false, ◌&&◌, ◌||◌, nat_le, nat_lt, bit_and, bit_or, sym, ap, ◌∙◌, inl, inr, rules}
use Rattle.std.proofs.lemmas.Bool.{cases_lt, cases_Bool, lt-leb, le-leb, lt-ltb, le-ltb}
use Rattle.std.proofs.lemmas.Nat.Bits.{bit_at_ones, bit_at_ones_above}
use Rattle.std.proofs.Math.Bool.{or-false}
use Rattle.lane_board.specs.Field.{Field}
use Rattle.lane_board.specs.Lanes.{has_bit}
use Rattle.lane_board.proofs.CallerLemmas.{true_from_bit, false_from_bit, has_bit-and, has_bit-or, has_bit-low, has_bit-shifted_low, has_bit-shifted_high, has_bit-shifted_right}
use Rattle.place_sets.specs.FourRows.{IsFourRows}
use Rattle.place_sets.proofs.FieldLemmas.{LiesWithin}

pub has_bit-bits_from : (n low k : ℕ) → k < 64 → has_bit (n / 2 ^ low * 2 ^ low % 2 ^ 64) k ≡ (nat_le low k && has_bit n k)
has_bit-bits_from n low k within =
    has_bit-low (n / 2 ^ low * 2 ^ low) 64 k within
    ∙ elim (cases_lt k low) [
      | inl below ↦ has_bit-shifted_low (n / 2 ^ low) low k below ∙ ap (λ b. b && has_bit n k) (sym (lt-leb low k below))
      | inr from ↦ search (rules, has_bit-shifted_high, has_bit-shifted_right, le-leb)
    ]

-- the lowest bits, so many of them
pub has_bit-ones : (n count k : ℕ) → has_bit (bit_and n (2 ^ count - 1)) k ≡ (has_bit n k && nat_lt k count)
has_bit-ones n count k =
    search (rules, has_bit-and, cases_lt, true_from_bit, bit_at_ones, lt-ltb, false_from_bit, bit_at_ones_above, le-ltb)

-- a row moved up
has_bit-raised : (n at k : ℕ) → k < 64 → has_bit (n * 2 ^ at % 2 ^ 64) k ≡ (nat_le at k && has_bit n (k - at))
has_bit-raised n at k within = search (rules, (has_bit-low (n * 2 ^ at) 64 k within), (cases_lt k), (has_bit-shifted_low n), lt-leb, (has_bit-shifted_high n), le-leb)

module _ (F : Field) (N y a b c d : ℕ) (lies : LiesWithin F N)
    (is_a : has_bit a ≡ (λ x. F x y)) (is_b : has_bit b ≡ (λ x. F x (y + 1))) (is_c : has_bit c ≡ (λ x. F x (y + 2))) (is_d : has_bit d ≡ (λ x. F x (y + 3))) where
  abbrev pub word : ℕ
  word = bit_or (bit_or (bit_or a (b * 2 ^ 16 % 2 ^ 64)) (c * 2 ^ 32 % 2 ^ 64)) (d * 2 ^ 48 % 2 ^ 64)

  parts : (k : ℕ) → k < 64 → has_bit word k ≡ (((F k y || (nat_le 16 k && F (k - 16) (y + 1))) || (nat_le 32 k && F (k - 32) (y + 2))) || (nat_le 48 k && F (k - 48) (y + 3)))
  parts k within =
      let p = ap (λ (t : ℕ → Bool). t k) is_a in
      let q = has_bit-raised b 16 k within ∙ ap (λ (t : ℕ → Bool). nat_le 16 k && t (k - 16)) is_b in
      let r = has_bit-raised c 32 k within ∙ ap (λ (t : ℕ → Bool). nat_le 32 k && t (k - 32)) is_c in
      let s = has_bit-raised d 48 k within ∙ ap (λ (t : ℕ → Bool). nat_le 48 k && t (k - 48)) is_d in
      has_bit-or (bit_or (bit_or a (b * 2 ^ 16 % 2 ^ 64)) (c * 2 ^ 32 % 2 ^ 64)) (d * 2 ^ 48 % 2 ^ 64) k
      ∙ ap (λ t. t || has_bit (d * 2 ^ 48 % 2 ^ 64) k) (has_bit-or (bit_or a (b * 2 ^ 16 % 2 ^ 64)) (c * 2 ^ 32 % 2 ^ 64) k ∙ ap (λ t. t || has_bit (c * 2 ^ 32 % 2 ^ 64) k) (has_bit-or a (b * 2 ^ 16 % 2 ^ 64) k))
      ∙ (λ i. ((p i || q i) || r i) || s i)

  -- a cell of the rows, seen from its row
  none_past : (x z : ℕ) → 10 ≤ x → F x z ≡ false
  none_past x z past = search (rules, cases_Bool)

  pub four_rows-is : IsFourRows F y word
  four_rows-is = record { bits = bits }
    where
      at_row : (k j : ℕ) → 16 * j ≤ k → k < 16 * j + 16 → F (k - 16 * j) (y + j) ≡ F (k % 16) (y + k / 16)
      at_row k j low high = search rules

      bits : (k : ℕ) → k < 64 → has_bit word k ≡ F (k % 16) (y + k / 16)
      bits k within = parts k within ∙ by_row
        where
          by_row : (((F k y || (nat_le 16 k && F (k - 16) (y + 1))) || (nat_le 32 k && F (k - 32) (y + 2))) || (nat_le 48 k && F (k - 48) (y + 3))) ≡ F (k % 16) (y + k / 16)
          by_row = search (rules, cases_lt, lt-leb, or-false, le-leb, at_row)
