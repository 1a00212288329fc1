-- The words of a set that are in use.
use Rattle.std.proofs.Common.{◌≡◌, ℕ, ◌+◌, ◌-◌, ◌*◌, ◌/◌, ◌%◌, ◌^◌, ◌<◌, ◌≤◌, true, false, ◌&&◌, nat_lt, nat_le, not, ◌==◌, bit_or, get_or, refl, sym, ap, ◌∙◌, inl, inr, arith, rules}
use Rattle.std.proofs.lemmas.Bool.{agree_below_at, and_parts, and_from, cases_Bool, cases_eq, le-leb, leb-true, ne_eqb, both_ways}
use Rattle.lane_board.specs.Lanes.{has_bit}
use Rattle.lane_board.proofs.CallerLemmas.{has_bit-zero}
use Rattle.lane_board.specs.LowestBit.{IsLowestBit}
use Rattle.place_sets.specs.declared.numbers.Numbers.{Numbers}
use Rattle.place_sets.specs.Numbers.{has_number, IsFirstNumber, NoNumber, IsFirstWord, NoWord}
use Rattle.place_sets.proofs.NumberLemmas.{first_in, first_of_all, has_number-in, none_at_all, word_whole}

-- the first so many words of each rotation
abbrev pub words_from : ℕ → ℕ
words_from first = bit_or (bit_or (bit_or first (first * 2 ^ 6 % 2 ^ 64)) (first * 2 ^ 12 % 2 ^ 64)) (first * 2 ^ 18 % 2 ^ 64)

pub first_words-bits : (count w : ℕ) → count ≤ 6 → w < 64 → has_bit (words_from (1 * 2 ^ count % 2 ^ 64 - 1)) w ≡ (nat_lt w 24 && nat_lt (w % 6) count)
unfolding has_bit
first_words-bits count w few within =
    let p : count ≡ (64 * count + w) / 64 = omega arith in
    let q : w ≡ (64 * count + w) % 64 = omega arith in
    (λ i. has_bit (words_from (1 * 2 ^ p i % 2 ^ 64 - 1)) (q i))
    ∙ agree_below_at (λ n. has_bit (words_from (1 * 2 ^ (n / 64) % 2 ^ 64 - 1)) (n % 64)) (λ n. nat_lt (n % 64) 24 && nat_lt (n % 64 % 6) (n / 64)) 448 (64 * count + w) refl (omega arith)
    ∙ (λ i. nat_lt (sym q i) 24 && nat_lt (sym q i % 6) (sym p i))

-- a word is empty unless it is in use and may have a bit
pub empty_unless : (numbers : Numbers) (w : ℕ) → w < 24 → (has_bit numbers.in_use w ≡ true → get_or numbers.words w 0 ≡ 0) → get_or numbers.words w 0 ≡ 0
empty_unless numbers w small empty = search (rules, cases_Bool)

pub none_before_first : (numbers : Numbers) (at : ℕ) → IsFirstWord numbers numbers.in_use at → (w : ℕ) → w < at → get_or numbers.words w 0 ≡ 0
none_before_first numbers at is w below = empty_unless numbers w (omega (arith, is.small, below)) (is.first w below)

pub no_number_in_use : (numbers : Numbers) → NoWord numbers numbers.in_use → NoNumber numbers 0
no_number_in_use numbers is = none_at_all numbers 24 (λ w small. empty_unless numbers w small (is.none w small)) (omega arith)

pub first_in_use : (numbers : Numbers) (at bit word : ℕ) → IsFirstWord numbers numbers.in_use at → word ≡ get_or numbers.words at 0 → bit < 64 → IsLowestBit word bit → IsFirstNumber numbers 0 (64 * at + bit)
first_in_use numbers at bit word is same within lowest = search (rules, (first_of_all numbers), (none_before_first numbers), lowest.first)

-- the lowest word that is left is looked at
module _ (numbers : Numbers) (among left next at : ℕ) (lowest : IsLowestBit left at)
    (cleared : (bit k : ℕ) → IsLowestBit left bit → k < 64 → has_bit next k ≡ (has_bit left k && not (k == bit))) where
  pub still_among : ((w : ℕ) → w < 64 → has_bit left w ≡ true → has_bit among w ≡ true) → (w : ℕ) → w < 64 → has_bit next w ≡ true → has_bit among w ≡ true
  still_among before w within has = before w within (and_parts (has_bit left w) _ (sym (cleared at w lowest within) ∙ has)).0

  pub still_empty : get_or numbers.words at 0 ≡ 0 → ((w : ℕ) → w < 64 → has_bit among w ≡ true → has_bit left w ≡ false → get_or numbers.words w 0 ≡ 0) →
      (w : ℕ) → w < 64 → has_bit among w ≡ true → has_bit next w ≡ false → get_or numbers.words w 0 ≡ 0
  still_empty empty before w within has none = elim (cases_eq w at) [
    | inl same ↦ ap (λ w. get_or numbers.words w 0) same ∙ empty
    | inr apart ↦ elim (cases_Bool (has_bit left w)) [
      | inl more ↦ absurd (both_ways _ none (cleared at w lowest within ∙ and_from _ _ more (ap not (ne_eqb w at apart))))
      | inr less ↦ before w within has less
    ]
  ]

-- the words in use from one on
module _ (numbers : Numbers) (start later : ℕ) (bits : (k : ℕ) → k < 64 → has_bit later k ≡ (nat_le start k && has_bit numbers.in_use k)) where
  empty_from : (w : ℕ) → w < 24 → start ≤ w → (has_bit later w ≡ true → get_or numbers.words w 0 ≡ 0) → get_or numbers.words w 0 ≡ 0
  empty_from w small from empty = empty_unless numbers w small (λ used. empty (bits w (omega arith) ∙ and_from _ _ (le-leb start w from) used))

  no_number : (m : ℕ) → get_or numbers.words (m / 64) 0 ≡ 0 → has_number numbers m ≡ true → ⊥
  no_number m empty has = both_ways _ (has_bit-zero (m % 64)) (ap (λ w. has_bit w (m % 64)) (sym empty) ∙ sym (has_number-in numbers m) ∙ has)

  pub first_from_word : (at bit word : ℕ) → IsFirstWord numbers later at → word ≡ get_or numbers.words at 0 → bit < 64 → IsLowestBit word bit → IsFirstNumber numbers (64 * start) (64 * at + bit)
  first_from_word at bit word is same within lowest =
      let from = leb-true start at (and_parts (nat_le start at) _ (sym (bits at (omega (arith, is.small))) ∙ is.is_among)).0 in
      first_in numbers (64 * start) at _ (word_whole numbers start at from) (λ m after below. no_number m (empty_from (m / 64) (omega (arith, is.small, below)) (omega (arith, after)) (is.first (m / 64) (omega (arith, below)))))
      bit is.small within (ap (λ w. has_bit w bit) (sym same) ∙ lowest.has) (λ k small has. lowest.first k (ap (λ w. has_bit w k) same ∙ has))

  pub none_from_word : NoWord numbers later → NoNumber numbers (64 * start)
  none_from_word is = record { none = λ m small after. no_number m (empty_from (m / 64) (omega (arith, small)) (omega (arith, after)) (is.none (m / 64) (omega (arith, small)))) }
