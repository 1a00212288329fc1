-- The bits of a row after an operator.
use Rattle.std.proofs.Common.{◌≡◌, ℕ, ◌+◌, ◌-◌, ◌*◌, ◌/◌, ◌%◌, ◌^◌, ◌<◌, ◌≤◌, min, max, false, not, ◌&&◌, ◌||◌, ◌==◌, eqb, bit_and, bit_or, bit_xor, ap, ◌∙◌, arith, rules}
use Rattle.std.specs.Int.{bit_at}
use Rattle.std.proofs.lemmas.Bool.{cases_eq, eq-eqb, ne_eqb}
use Rattle.std.proofs.lemmas.Bool.Decides.{nat_tests}
use Rattle.std.proofs.lemmas.Nat.Bits.{bit_at_and, bit_at_or, bit_at_xor, bit_at-lt, bit_at-zero, bit_at_above, same_from_bits, bit_at-pow_same, bit_at-pow_other, bit_at_cat_low, bit_at_cat_high}
use Rattle.std.proofs.lemmas.Nat.{one_shl, or_lt, pow_below, pow_pos, shr_split, shr-shr}
use Rattle.lane_board.specs.Lanes.{has_bit}

pub has_bit-zero : (k : ℕ) → has_bit 0 k ≡ false
unfolding has_bit
has_bit-zero k = ap (λ b. b == 1) (bit_at-zero k)

-- a row has no column from column 10 on
pub has_bit-above : (n k : ℕ) → n < 1024 → 10 ≤ k → has_bit n k ≡ false
unfolding has_bit
has_bit-above n k small above = ap (λ b. b == 1) (bit_at_above n 10 k small above)

min_of_bits : (p q : ℕ) → p < 2 → q < 2 → eqb (min p q) 1 ≡ (eqb p 1 && eqb q 1)
min_of_bits p q small_p small_q = grind (arith, nat_tests)

max_of_bits : (p q : ℕ) → p < 2 → q < 2 → eqb (max p q) 1 ≡ (eqb p 1 || eqb q 1)
max_of_bits p q small_p small_q = grind (arith, nat_tests)

less_of_bits : (p q : ℕ) → p < 2 → q < 2 → eqb ((p + min p q) % 2) 1 ≡ (eqb p 1 && not (eqb q 1))
less_of_bits p q small_p small_q = grind (arith, nat_tests)

pub has_bit-and : (a b k : ℕ) → has_bit (bit_and a b) k ≡ (has_bit a k && has_bit b k)
unfolding has_bit
has_bit-and a b k = ap (λ n. n == 1) (bit_at_and a b k) ∙ min_of_bits (bit_at a k) (bit_at b k) (bit_at-lt a k) (bit_at-lt b k)

pub has_bit-or : (a b k : ℕ) → has_bit (bit_or a b) k ≡ (has_bit a k || has_bit b k)
unfolding has_bit
has_bit-or a b k = ap (λ n. n == 1) (bit_at_or a b k) ∙ max_of_bits (bit_at a k) (bit_at b k) (bit_at-lt a k) (bit_at-lt b k)

pub has_bit-and_not : (a b k : ℕ) → has_bit (bit_xor a (bit_and a b)) k ≡ (has_bit a k && not (has_bit b k))
unfolding has_bit
has_bit-and_not a b k = search (rules, bit_at_xor, bit_at_and, less_of_bits, bit_at-lt)

-- two rows with the same columns are equal
pub same_from_columns : (a b : ℕ) → ((k : ℕ) → has_bit a k ≡ has_bit b k) → a ≡ b
unfolding has_bit
same_from_columns a b same = search (rules, (same_from_bits a b), (bit_at-lt a), (bit_at-lt b))

-- one column alone
pub has_bit-pow : (x k : ℕ) → has_bit (2 ^ x) k ≡ (k == x)
unfolding has_bit
has_bit-pow x k = search (rules, cases_eq, bit_at-pow_same, eq-eqb, bit_at-pow_other, ne_eqb)

-- a row with one more column
pub has_bit-with : (row x k : ℕ) → x ≤ 9 → has_bit (bit_or row (1 * 2 ^ x % 2 ^ 16)) k ≡ (has_bit row k || k == x)
has_bit-with row x k small = search (rules, (bit_or row), (one_shl x 16), (has_bit-or row (2 ^ x) k), (has_bit-pow x k))

pub with_small : (row x : ℕ) → row < 1024 → x ≤ 9 → bit_or row (1 * 2 ^ x % 2 ^ 16) < 1024
with_small row x small column = search (rules, (bit_or row), (one_shl x 16), (or_lt 10 row (2 ^ x) small), (pow_below x 10))

-- a shift to the left
pub has_bit-shifted_low : (m at k : ℕ) → k < at → has_bit (m * 2 ^ at) k ≡ false
unfolding has_bit
has_bit-shifted_low m at k below =
    ap (λ n. bit_at n k == 1) {y = m * 2 ^ at + 0} (omega arith) ∙ ap (λ b. b == 1) (bit_at_cat_low m at 0 k below ∙ bit_at-zero k)

pub has_bit-shifted_high : (m at k : ℕ) → at ≤ k → has_bit (m * 2 ^ at) k ≡ has_bit m (k - at)
unfolding has_bit
has_bit-shifted_high m at k from =
    ap (λ n. bit_at n k == 1) {y = m * 2 ^ at + 0} (omega arith) ∙ ap (λ b. b == 1) (bit_at_cat_high m at 0 k (pow_pos at) from)

pub has_bit-past : (n at k : ℕ) → n < 2 ^ at → at ≤ k → has_bit n k ≡ false
unfolding has_bit
has_bit-past n at k small from = ap (λ b. b == 1) (bit_at_above n at k small from)

-- the lowest bits alone
pub has_bit-low : (mask n y : ℕ) → y < n → has_bit (mask % 2 ^ n) y ≡ has_bit mask y
unfolding has_bit
has_bit-low mask n y below = search (rules, (bit_at_cat_low (mask / 2 ^ n) n (mask % 2 ^ n) y below), (shr_split mask n))

-- a shift to the right
pub has_bit-shifted_right : (row k x : ℕ) → has_bit (row / 2 ^ k) x ≡ has_bit row (k + x)
unfolding has_bit
has_bit-shifted_right row k x = ap (λ n. n % 2 == 1) (shr-shr row k x)
