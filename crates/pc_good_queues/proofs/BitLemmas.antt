-- The bits of a byte, and of bytes that are set one after the other.
use Rattle.std.proofs.Common.{◌≡◌, ◌≢◌, ℕ, ◌+◌, ◌*◌, ◌%◌, ◌^◌, ◌<◌, ◌≤◌, Bool, true, false, ◌&&◌, ◌==◌, nat_lt, List, length, take, get_or, bit_or, w8, refl, sym, ap, subst, ◌∙◌, inl, inr, arith, rules}
use Rattle.std.specs.Int.{bit_at}
use Rattle.std.specs.Prelude.{slice_set}
use Rattle.std.proofs.lemmas.Bool.{cases_eq, cases_lt, lt-ltb}
use Rattle.std.proofs.lemmas.Bool.Decides.{nat_tests}
use Rattle.std.proofs.lemmas.List.{get_or_past, get_or-take, length-take}
use Rattle.std.proofs.lemmas.Nat.Bits.{bit_at-zero, bit_at_set_other, bit_at_set_same}
use Rattle.pc_good_queues.specs.Bits.{AreBitsOf, bytes_for, is_one}

-- the bits below one of them are the flags from `first` on, and those from it on are 0
pub record HasFlags (flags : List Bool) (first bit byte : ℕ) : Type 0 where
  pub each : (k : ℕ) → (bit_at byte k == 1) ≡ (nat_lt k bit && get_or flags (first + k) false)

one_more : (k bit : ℕ) → k ≢ bit → nat_lt k bit ≡ nat_lt k (bit + 1)
one_more k bit other = grind (arith, nat_tests)

module _ (flags : List Bool) (first bit byte : ℕ) (so_far : HasFlags flags first bit byte) where
  next_flag : (next : ℕ) → ((k : ℕ) → k ≢ bit → bit_at next k ≡ bit_at byte k)
      → (bit_at next bit == 1) ≡ get_or flags (first + bit) false → HasFlags flags first (bit + 1) next
  next_flag next others here = record { each = each } where
    each : (k : ℕ) → (bit_at next k == 1) ≡ (nat_lt k (bit + 1) && get_or flags (first + k) false)
    each k = elim (cases_eq k bit) [
      | inl same ↦ subst (λ n. (bit_at next n == 1) ≡ (nat_lt n (bit + 1) && get_or flags (first + n) false)) (sym same)
          (here ∙ sym (ap (λ b. b && get_or flags (first + bit) false) (lt-ltb bit (bit + 1) (omega arith))))
      | inr other ↦ ap (λ n. n == 1) (others k other) ∙ so_far.each k
          ∙ ap (λ b. b && get_or flags (first + k) false) (one_more k bit other)
    ]

  pub flag_set : bit < 8 → get_or flags (first + bit) false ≡ true
      → HasFlags flags first (bit + 1) (bit_or byte (1 * 2 ^ bit % 2 ^ 8))
  flag_set low is = next_flag (bit_or byte (1 * 2 ^ bit % 2 ^ 8)) (λ k other. bit_at_set_other w8 byte bit low k other)
      (ap (λ n. n == 1) (bit_at_set_same w8 byte bit low) ∙ sym is)

  pub flag_left : get_or flags (first + bit) false ≡ false → HasFlags flags first (bit + 1) byte
  flag_left is = next_flag byte (λ k other. refl)
      (so_far.each bit ∙ ap (λ b. nat_lt bit bit && b) is ∙ both_false (nat_lt bit bit) ∙ sym is)
    where
      both_false : (b : Bool) → (b && false) ≡ false
      both_false true = refl
      both_false false = refl

-- the bits of so many bytes are flags
pub record HasBytes (flags : List Bool) (count : ℕ) (bytes : List ℕ) : Type 0 where
  pub each : (number : ℕ) → number < 8 * count → is_one bytes number ≡ get_or flags number false

pub more_bytes : (flags : List Bool) (count : ℕ) (bytes : List ℕ) (byte : ℕ) → HasBytes flags count bytes
    → count < length bytes → ((k : ℕ) → k < 8 → (bit_at byte k == 1) ≡ get_or flags (8 * count + k) false)
    → HasBytes flags (count + 1) (slice_set bytes count byte)
unfolding is_one
more_bytes flags count bytes byte so_far within here = search rules

-- all flags have their bits
pub all_bytes : (flags : List Bool) (count : ℕ) (bytes : List ℕ) → length flags ≡ count → bytes_for count ≤ length bytes
    → HasBytes flags (bytes_for count) bytes → AreBitsOf flags (take (bytes_for count) bytes)
unfolding is_one
all_bytes flags count bytes all room has = search (rules, length-take, cases_lt, get_or-take, get_or_past, bit_at-zero)
