-- Bits that stand side by side, and bits that are moved.
use Rattle.std.proofs.Common.{ℕ, ◌≡◌, ◌+◌, ◌-◌, ◌*◌, ◌/◌, ◌%◌, ◌^◌, ◌<◌, ◌≤◌, nat_le, nat_lt, ◌&&◌, ◌==◌, ap, sym, ◌∙◌, inl, inr, arith}
use Rattle.std.proofs.lemmas.Bool.{cases_lt}
use Rattle.std.proofs.lemmas.Bool.Decides.{nat_tests}
use Rattle.std.proofs.lemmas.Nat.{mod_below, one_shl}
use Rattle.std.proofs.lemmas.Nat.Bits.{bit_at_ones, bit_at_ones_above}
use Rattle.lane_board.specs.Lanes.{has_bit}
use Rattle.lane_board.proofs.CallerLemmas.{has_bit-low, has_bit-past, has_bit-shifted_high, has_bit-shifted_low, has_bit-shifted_right, has_bit-zero}

-- so many bits from the lowest on
pub has_bit-ones : (n k : ℕ) → has_bit (2 ^ n - 1) k ≡ nat_lt k n
unfolding has_bit
has_bit-ones n k = elim (cases_lt k n) [
  | inl below ↦ ap (λ b. b == 1) (bit_at_ones n k below) ∙ grind (arith, nat_tests)
  | inr from ↦ ap (λ b. b == 1) (bit_at_ones_above n k from) ∙ grind (arith, nat_tests)
]

pub has_bit-below : (count k : ℕ) → count < 64 → has_bit (1 * 2 ^ count % 18446744073709551616 - 1) k ≡ (nat_lt k 64 && nat_lt k count)
has_bit-below count k few = ap (λ n. has_bit (n - 1) k) (one_shl count 64 few) ∙ has_bit-ones count k ∙ grind (arith, nat_tests)

pub has_bit-all : (count k : ℕ) → 64 ≤ count → has_bit 18446744073709551615 k ≡ (nat_lt k 64 && nat_lt k count)
has_bit-all count k many = has_bit-ones 64 k ∙ grind (arith, nat_tests)

-- moved down
pub has_bit-down : (bits by k : ℕ) → has_bit (bits / 2 ^ by) k ≡ has_bit bits (k + by)
has_bit-down bits by k = has_bit-shifted_right bits by k ∙ ap (has_bit bits) {x = by + k} {y = k + by} (omega arith)

pub has_bit-down_past : (bits by k : ℕ) → bits < 2 ^ 64 → 64 ≤ by → has_bit 0 k ≡ has_bit bits (k + by)
has_bit-down_past bits by k fits far = has_bit-zero k ∙ sym (has_bit-past bits 64 (k + by) fits (omega arith))

-- moved up
pub has_bit-up : (bits by k : ℕ) → has_bit (bits * 2 ^ by % 18446744073709551616) k ≡ (nat_lt k 64 && (nat_le by k && has_bit bits (k - by)))
has_bit-up bits by k = elim (cases_lt k 64) [
  | inl inside ↦
      let low = has_bit-low (bits * 2 ^ by) 64 k inside in
      elim (cases_lt k by) [
        | inl below ↦ let none = low ∙ has_bit-shifted_low bits by k below in grind (arith, nat_tests)
        | inr from ↦ let moved = low ∙ has_bit-shifted_high bits by k from in grind (arith, nat_tests)
      ]
  | inr past ↦
      let none = has_bit-past (bits * 2 ^ by % 2 ^ 64) 64 k (mod_below (bits * 2 ^ by) (2 ^ 64) (omega arith)) past in grind (arith, nat_tests)
]

pub has_bit-up_past : (bits by k : ℕ) → 64 ≤ by → has_bit 0 k ≡ (nat_lt k 64 && (nat_le by k && has_bit bits (k - by)))
has_bit-up_past bits by k far = has_bit-zero k ∙ grind (arith, nat_tests)
