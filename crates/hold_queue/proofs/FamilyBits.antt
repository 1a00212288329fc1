-- The bits of a family's two numbers.
use Rattle.std.proofs.Common.{◌≡◌, ℕ, ◌+◌, ◌-◌, ◌*◌, ◌/◌, ◌%◌, ◌^◌, ◌<◌, ◌≤◌, lit<, min, max, Bool, true, false, ◌&&◌, ◌||◌, ◌==◌, eqb, eq-eqb, nat_eq, IsTrue, ◌↔◌, nat_lt, nat_le, bit_and, bit_or, refl, ap, ◌∙◌, sym, inl, inr, arith, List, [], ◌∷◌, get_or, rules}
use Rattle.std.specs.Int.{bit_at}
use Rattle.std.proofs.lemmas.Bool.{agree_below_at, cases_Bool, cases_lt, eqb-true, lt-ltb, le-ltb}
use Rattle.std.proofs.lemmas.Bool.Decides.{nat_tests}
use Rattle.std.proofs.lemmas.Nat.{pow_pos}
use Rattle.std.proofs.lemmas.Nat.Bits.{bit_at_and, bit_at_or, bit_at-lt, bit_at-zero, same_from_bits_below, bit_at_cat_low, bit_at_cat_high}
use Rattle.srs.specs.declared.piece.Piece.{Piece}
use Rattle.srs.specs.declared.piece.Piece.TheVariants.{I, L, O, Z, T, J, S}
use Rattle.srs.specs.Piece.{piece_code}
use Rattle.hold_queue.specs.declared.family.Family.{Family}
use Rattle.hold_queue.specs.Family.{has_set, with_piece}

abbrev made : ℕ → ℕ → Family
made low high = record { low = low; high = high }

max_of_bits : (p q : ℕ) → p < 2 → q < 2 → eqb (max p q) 1 ≡ (eqb p 1 || eqb q 1)
max_of_bits p q small_p small_q = grind (arith, nat_tests)

min_of_bits : (p q : ℕ) → p < 2 → q < 2 → eqb (min p q) 1 ≡ (eqb q 1 && eqb p 1)
min_of_bits p q small_p small_q = grind (arith, nat_tests)

word_or : (a b k : ℕ) → (bit_at (bit_or a b) k == 1) ≡ ((bit_at a k == 1) || (bit_at b k == 1))
word_or a b k = ap (λ n. n == 1) (bit_at_or a b k) ∙ max_of_bits (bit_at a k) (bit_at b k) (bit_at-lt a k) (bit_at-lt b k)

-- a set without S is in the low number, one with S in the high number
pub has_set-low : (family : Family) (set : ℕ) → set < 64 → has_set family set ≡ (bit_at family.low set == 1)
unfolding has_set
has_set-low family set below = rw (lt-ltb set 64 below) refl

pub has_set-high : (family : Family) (set : ℕ) → 64 ≤ set → has_set family set ≡ (bit_at family.high (set - 64) == 1)
unfolding has_set
has_set-high family set above = rw (le-ltb set 64 above) refl

pub has_set-or : (f g : Family) (set : ℕ) → has_set (made (bit_or f.low g.low) (bit_or f.high g.high)) set ≡ (has_set f set || has_set g set)
has_set-or f g set = search (rules, cases_lt, has_set-low, word_or, has_set-high)

no_bit : (k : ℕ) → (bit_at 0 k == 1) ≡ false
no_bit k = ap (λ n. n == 1) (bit_at-zero k)

pub has_set-empty : (set : ℕ) → has_set (made 0 0) set ≡ false
has_set-empty set = search (rules, cases_lt, has_set-low, no_bit, has_set-high)

not_one : (n : ℕ) → n < 2 → (n == 1) ≡ false → n ≡ 0
not_one n small other = grind (arith, nat_tests)

-- a number without a bit is 0
pub word_none : (word : ℕ) → word < 2 ^ 64 → (IsTrue (nat_eq word 0)) ↔ ((index : ℕ) → index < 64 → (bit_at word index == 1) ≡ false)
word_none word small = (λ none index within. ap (λ w. bit_at w index == 1) (eqb-true word 0 none) ∙ no_bit index, λ none. eq-eqb word 0 (empty none))
  where
    empty : ((index : ℕ) → index < 64 → (bit_at word index == 1) ≡ false) → word ≡ 0
    empty none = same_from_bits_below 64 word 0 small (lit< tt) (λ k within. not_one (bit_at word k) (bit_at-lt word k) (none k within) ∙ sym (bit_at-zero k))

-- a family without a set has numbers without a bit
pub family_none : (family : Family) → ((index : ℕ) → index < 64 → (bit_at family.low index == 1) ≡ false) → ((index : ℕ) → index < 64 → (bit_at family.high index == 1) ≡ false)
    → (set : ℕ) → set < 128 → has_set family set ≡ false
family_none family low high set within = search (rules, cases_lt, has_set-low, has_set-high)

pub low_none : (family : Family) → ((set : ℕ) → set < 128 → has_set family set ≡ false) → (index : ℕ) → index < 64 → (bit_at family.low index == 1) ≡ false
low_none family none index within = sym (has_set-low family index within) ∙ none index (omega arith)

pub high_none : (family : Family) → ((set : ℕ) → set < 128 → has_set family set ≡ false) → (index : ℕ) → index < 64 → (bit_at family.high index == 1) ≡ false
high_none family none index within =
    ap (λ n. bit_at family.high n == 1) (omega arith) ∙ sym (has_set-high family (index + 64) (omega arith)) ∙ none (index + 64) (omega arith)

-- the family of the empty set alone
pub has_set-one : (set : ℕ) → set < 128 → has_set (made 1 0) set ≡ (set == 0)
unfolding has_set
has_set-one set within = agree_below_at (has_set (made 1 0)) (λ n. n == 0) 128 set refl within

bit_at-mod : (n k : ℕ) → k < 64 → bit_at (n % 2 ^ 64) k ≡ bit_at n k
bit_at-mod n k within = sym (bit_at_cat_low (n / 2 ^ 64) 64 (n % 2 ^ 64) k within) ∙ ap (λ m. bit_at m k) (omega arith)

-- the bits of a number that a mask lets through, moved up
shifted : (word mask by k index : ℕ) → index < 64 → (by ≤ index → bit_at mask (index - by) ≡ bit_at index k) → (index < by → bit_at index k ≡ 0)
    → (bit_at (bit_and word mask * 2 ^ by % 2 ^ 64) index == 1) ≡ ((bit_at index k == 1) && (bit_at word (index - by) == 1))
shifted word mask by k index within there none = elim (cases_lt index by) [
  | inl below ↦
      let bits : bit_at (bit_and word mask * 2 ^ by % 2 ^ 64) index ≡ 0 =
      bit_at-mod (bit_and word mask * 2 ^ by) index within ∙ ap (λ n. bit_at n index) (sum_zero (bit_and word mask * 2 ^ by))
      ∙ bit_at_cat_low (bit_and word mask) by 0 index below ∙ bit_at-zero index in
      ap (λ n. n == 1) bits ∙ sym (ap (λ n. (n == 1) && (bit_at word (index - by) == 1)) (none below))
  | inr above ↦
      let bits : bit_at (bit_and word mask * 2 ^ by % 2 ^ 64) index ≡ min (bit_at word (index - by)) (bit_at index k) =
      bit_at-mod (bit_and word mask * 2 ^ by) index within ∙ ap (λ n. bit_at n index) (sum_zero (bit_and word mask * 2 ^ by))
      ∙ bit_at_cat_high (bit_and word mask) by 0 index (pow_pos by) above ∙ bit_at_and word mask (index - by)
      ∙ ap (min (bit_at word (index - by))) (there above) in
      ap (λ n. n == 1) bits ∙ min_of_bits (bit_at word (index - by)) (bit_at index k) (bit_at-lt word (index - by)) (bit_at-lt index k)
]
  where
    sum_zero : (n : ℕ) → n ≡ n + 0
    sum_zero n = omega arith

-- what the masks and numbers of sets have to do with each other, tried at each set
abbrev lines_up : ℕ → ℕ → ℕ → Bool
lines_up mask k index =
    (nat_lt index (2 ^ k) && (bit_at index k == 0)) || (nat_le (2 ^ k) index && (bit_at mask (index - 2 ^ k) == bit_at index k))

abbrev high_lines_up : ℕ → ℕ → Bool
high_lines_up k set = nat_lt set 64 || ((bit_at (set - 64) k == bit_at set k) && ((bit_at set k == 0) || nat_le 64 (set - 2 ^ k)))

lined_up : (mask k index : ℕ) → lines_up mask k index ≡ true → (2 ^ k ≤ index → bit_at mask (index - 2 ^ k) ≡ bit_at index k) × (index < 2 ^ k → bit_at index k ≡ 0)
lined_up mask k index fits = (λ above. grind (arith, nat_tests), λ below. grind (arith, nat_tests))

same_high : (k set : ℕ) → 64 ≤ set → high_lines_up k set ≡ true → (bit_at (set - 64) k ≡ bit_at set k) × (bit_at set k ≡ 1 → 64 ≤ set - 2 ^ k)
same_high k set above fits = (grind (arith, nat_tests), λ has. grind (arith, nat_tests))

-- the sets that a mask lets through, moved up by 2 ^ k, are those that lack a piece, with it
moved_up : (family : Family) (mask k : ℕ) → 2 ^ k ≤ 64 → ((set : ℕ) → set < 64 → lines_up mask k set ≡ true) → ((set : ℕ) → set < 128 → high_lines_up k set ≡ true)
    → (set : ℕ) → set < 128
    → has_set (made (bit_and family.low mask * 2 ^ (2 ^ k) % 2 ^ 64) (bit_and family.high mask * 2 ^ (2 ^ k) % 2 ^ 64)) set
    ≡ ((bit_at set k == 1) && has_set family (set - 2 ^ k))
moved_up family mask k small low high set within = elim (cases_lt set 64) [
  | inl below ↦
      search (rules, lined_up, has_set-low, shifted)
  | inr above ↦
      let fits = lined_up mask k (set - 64) (low (set - 64) (omega arith)) in
      let same = same_high k set above (high set within) in
      has_set-high _ set above ∙ shifted family.high mask (2 ^ k) k (set - 64) (omega arith) fits.0 fits.1
      ∙ ap (λ n. (n == 1) && (bit_at family.high (set - 64 - 2 ^ k) == 1)) same.0
      ∙ where_set (bit_at set k) _ _ (λ has. ap (λ n. bit_at family.high n == 1) (omega arith) ∙ sym (has_set-high family (set - 2 ^ k) (same.1 has)))
]
  where
    where_set : (bit : ℕ) (a b : Bool) → (bit ≡ 1 → a ≡ b) → ((bit == 1) && a) ≡ ((bit == 1) && b)
    where_set bit a b same = search (rules, cases_Bool, eqb-true)

-- for each piece but S, the sets without S that lack it
abbrev masks : List ℕ
masks = 6148914691236517205 ∷ 3689348814741910323 ∷ 1085102592571150095 ∷ 71777214294589695 ∷ 281470681808895 ∷ 4294967295 ∷ []

-- the sets that lack a piece, with it, as words are moved
pub has_set-with : (family : Family) (piece : Piece) (index : ℕ) → index ≡ piece_code piece - 1 → (piece ≡ S → ⊥) → (set : ℕ) → set < 128
    → has_set (made (bit_and family.low (get_or masks index 0) * 2 ^ (1 * 2 ^ index % 2 ^ 32) % 2 ^ 64) (bit_and family.high (get_or masks index 0) * 2 ^ (1 * 2 ^ index % 2 ^ 32) % 2 ^ 64)) set
    ≡ with_piece piece (has_set family) set
unfolding with_piece
has_set-with family I index is other set within = rw is (moved_up family 6148914691236517205 0 (omega arith) (λ s. agree_below_at (lines_up 6148914691236517205 0) (λ _. true) 64 s refl) (λ s. agree_below_at (high_lines_up 0) (λ _. true) 128 s refl) set within)
has_set-with family L index is other set within = rw is (moved_up family 3689348814741910323 1 (omega arith) (λ s. agree_below_at (lines_up 3689348814741910323 1) (λ _. true) 64 s refl) (λ s. agree_below_at (high_lines_up 1) (λ _. true) 128 s refl) set within)
has_set-with family O index is other set within = rw is (moved_up family 1085102592571150095 2 (omega arith) (λ s. agree_below_at (lines_up 1085102592571150095 2) (λ _. true) 64 s refl) (λ s. agree_below_at (high_lines_up 2) (λ _. true) 128 s refl) set within)
has_set-with family Z index is other set within = rw is (moved_up family 71777214294589695 3 (omega arith) (λ s. agree_below_at (lines_up 71777214294589695 3) (λ _. true) 64 s refl) (λ s. agree_below_at (high_lines_up 3) (λ _. true) 128 s refl) set within)
has_set-with family T index is other set within = rw is (moved_up family 281470681808895 4 (omega arith) (λ s. agree_below_at (lines_up 281470681808895 4) (λ _. true) 64 s refl) (λ s. agree_below_at (high_lines_up 4) (λ _. true) 128 s refl) set within)
has_set-with family J index is other set within = rw is (moved_up family 4294967295 5 (omega arith) (λ s. agree_below_at (lines_up 4294967295 5) (λ _. true) 64 s refl) (λ s. agree_below_at (high_lines_up 5) (λ _. true) 128 s refl) set within)
has_set-with family S index is other set within = absurd (other refl)

-- the sets that lack S, with it
pub has_set-with_s : (family : Family) (set : ℕ) → set < 128 → has_set (made 0 family.low) set ≡ with_piece S (has_set family) set
unfolding with_piece
has_set-with_s family set within = search (rules, cases_lt, has_set-low, no_bit, agree_below_at, has_set-high, le-ltb)
