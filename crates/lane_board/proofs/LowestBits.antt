-- The lowest bit of a word, and the word without it.
use Rattle.std.proofs.Common.{◌≡◌, ℕ, zero, suc, ◌-◌, ◌/◌, ◌%◌, ◌^◌, ◌<◌, ◌≤◌, true, false, not, ◌&&◌, ◌==◌, bit_and, w64, sym, ap, ◌∙◌, inl, inr, arith, rules}
use Rattle.std.specs.Int.{trailing_zeros}
use Rattle.std.proofs.lemmas.Bool.{cases_lt, cases_eq, cases_Bool, eq-eqb, eqb-true, ne_eqb, both_ways}
use Rattle.std.proofs.lemmas.Nat.Bits.{bit_at-trailing_zeros, bit_at-suc, bit_at_lowest}
use Rattle.std.proofs.Math.Bool.{and_self, and-true}
use Rattle.lane_board.specs.Lanes.{has_bit}
use Rattle.lane_board.specs.LowestBit.{IsLowestBit}
use Rattle.lane_board.proofs.BoardFields.{false_from_bit, true_from_bit}
use Rattle.lane_board.proofs.RowBits.{has_bit-and}

pub lowest-is : (n : ℕ) → 0 < n → n < 2 ^ 64 → IsLowestBit n (trailing_zeros w64 n)
lowest-is n some fits = record { has = true_from_bit n (trailing_zeros w64 n) (bit_at-trailing_zeros w64 n some fits).1; first = first }
  where
    first : (k : ℕ) → has_bit n k ≡ true → trailing_zeros w64 n ≤ k
    first k has = elim (cases_lt k (trailing_zeros w64 n)) [
      | inl below ↦ absurd (both_ways _ (false_from_bit n k ((bit_at-trailing_zeros w64 n some fits).2 k below)) has)
      | inr above ↦ above
    ]

has_bit-suc : (n k : ℕ) → has_bit n (suc k) ≡ has_bit (n / 2) k
unfolding has_bit
has_bit-suc n k = ap (λ b. b == 1) (bit_at-suc n k)

true_odd : (n : ℕ) → has_bit n 0 ≡ true → n % 2 ≡ 1
unfolding has_bit
true_odd n has = sym (bit_at_lowest n) ∙ eqb-true _ _ has

-- one less clears the lowest bit, and changes none above it
record IsOneLess (bit n less : ℕ) : Type 0 where
  cleared : has_bit less bit ≡ false
  same : (k : ℕ) → bit < k → has_bit less k ≡ has_bit n k

one_less : (bit n : ℕ) → IsLowestBit n bit → IsOneLess bit n (n - 1)
one_less zero n lowest = search (rules, true_odd, even, same)
  where
    even : (n : ℕ) → n % 2 ≡ 0 → has_bit n 0 ≡ false
    even n e = false_from_bit n 0 (bit_at_lowest n ∙ e)

    same : n % 2 ≡ 1 → (k : ℕ) → 0 < k → has_bit (n - 1) k ≡ has_bit n k
    same odd zero above = absurd (omega (arith, above))
    same odd (suc k) above = has_bit-suc (n - 1) k ∙ ap (λ m. has_bit m k) {x = (n - 1) / 2} {y = n / 2} (omega (arith, odd)) ∙ sym (has_bit-suc n k)
one_less (suc bit) n lowest = search (rules, has_bit-suc, halved, less, same, (one_less bit (n / 2)))
  where
    halved : IsLowestBit (n / 2) bit
    halved = record { has = sym (has_bit-suc n bit) ∙ lowest.has; first = λ k has. let next = lowest.first (suc k) (has_bit-suc n k ∙ has) in omega (arith, next) }

    is_even : n % 2 ≡ 0
    is_even = search (rules, (cases_eq (n % 2) 0), (lowest.first 0), (true_from_bit n 0), (bit_at_lowest n))

    less : (n - 1) / 2 ≡ n / 2 - 1
    less = omega (arith, is_even)

    same : IsOneLess bit (n / 2) (n / 2 - 1) → (k : ℕ) → suc bit < k → has_bit (n - 1) k ≡ has_bit n k
    same half zero above = absurd (omega (arith, above))
    same half (suc k) above = has_bit-suc (n - 1) k ∙ ap (λ m. has_bit m k) less ∙ half.same k (omega (arith, above)) ∙ sym (has_bit-suc n k)

pub has_bit-without : (n bit k : ℕ) → IsLowestBit n bit → has_bit (bit_and n (n - 1)) k ≡ (has_bit n k && not (k == bit))
has_bit-without n bit k lowest =
    search (rules, (has_bit-and n (n - 1) k), (cases_eq k bit), one_less, eq-eqb, (cases_lt k bit), (one_less bit n lowest), (and_self (has_bit n k)), (and-true (has_bit n k)), (ne_eqb k bit), cases_Bool)
