-- Pieces that are taken from hands one after the other, and the sums of their weights.
use Rattle.std.proofs.Common.{◌≡◌, ℕ, zero, suc, ◌+◌, ◌/◌, ◌%◌, ◌*◌, ◌<◌, ◌≤◌, Bool, true, ◌&&◌, ◌==◌, List, [], ◌∷◌, ◌++◌, length, get_or, refl, ap, ◌∙◌, inl, inr, arith}
use Rattle.std.proofs.lemmas.Bool.{and_from, and_parts, eqb-true, false≢true, or_cases, or_left, or_right}
use Rattle.lane_board.specs.Lanes.{has_bit}
use Rattle.srs.specs.declared.piece.Piece.{Piece}
use Rattle.srs.specs.Piece.{piece_code}
use Rattle.hold_queue.specs.declared.hold.Hold.{Hold}
use Rattle.hold_queue.specs.declared.hold.Hold.TheVariants.{Allowed, Avoided}
use Rattle.hands.specs.Hands.{allows_hold, takes, takes_all, without_first, without_second}
use Rattle.hands.specs.Weights.{AllowsTaken, code_at, first_weights, weight_of}

-- ---- what can be taken from a hand

-- a piece that can be taken so that a test passes can be taken so that a weaker one does
takes-weaker : (hold : Hold) (code hand : ℕ) (goes_on other : ℕ → Bool) → ((rest : ℕ) → goes_on rest ≡ true → other rest ≡ true) → takes hold code goes_on hand ≡ true → takes hold code other hand ≡ true
unfolding takes
takes-weaker hold code hand goes_on other weaker passes = elim (or_cases (hand % 8 == code && goes_on (without_first hand)) _ passes) [
  | inl first ↦
      let parts = and_parts (hand % 8 == code) (goes_on (without_first hand)) first in
      or_left _ _ (and_from _ _ parts.0 (weaker (without_first hand) parts.1))
  | inr second ↦
      let later = and_parts (allows_hold hold) (hand / 8 % 8 == code && goes_on (without_second hand)) second in
      let parts = and_parts (hand / 8 % 8 == code) (goes_on (without_second hand)) later.1 in
      or_right _ _ (and_from _ _ later.0 (and_from _ _ parts.0 (weaker (without_second hand) parts.1)))
]

-- of pieces that can be taken, the first can
pub takes-first : (hold : Hold) (hand : ℕ) (pieces more : List Piece) → takes_all hold hand (pieces ++ more) ≡ true → takes_all hold hand pieces ≡ true
unfolding takes_all
takes-first hold hand [] more taken = refl
takes-first hold hand (piece ∷ pieces) more taken =
    takes-weaker hold (piece_code piece) hand (λ rest. takes_all hold rest (pieces ++ more)) (λ rest. takes_all hold rest pieces) (λ rest. takes-first hold rest pieces more) taken

-- ---- which sums of weights a hand allows

-- without hold the pieces that are taken are the first of the hand
pub weight-avoided : (weights : List ℕ) (hand : ℕ) (pieces : List Piece) → takes_all Avoided hand pieces ≡ true → weight_of weights pieces ≡ first_weights weights (length pieces) hand
unfolding takes_all takes without_first weight_of first_weights
weight-avoided weights hand [] taken = refl
weight-avoided weights hand (piece ∷ pieces) taken = elim (or_cases (hand % 8 == piece_code piece && takes_all Avoided (hand / 8) pieces) _ taken) [
  | inl first ↦
      let parts = and_parts (hand % 8 == piece_code piece) (takes_all Avoided (hand / 8) pieces) first in
      let same = ap (λ code. get_or weights code 0) (eqb-true (hand % 8) (piece_code piece) parts.0) in
      omega (arith, same, weight-avoided weights (hand / 8) pieces parts.1)
  | inr second ↦ absurd (false≢true second)
]

-- one of the first pieces of a hand is left of those before
pub record AllButOne (weights : List ℕ) (hand count weight : ℕ) : Type 0 where
  pub index : ℕ
  pub low : index ≤ count
  pub sum : weight + get_or weights (code_at hand index) 0 ≡ first_weights weights (suc count) hand

-- with hold they are the first but one
pub weight-allowed : (weights : List ℕ) (hand : ℕ) (pieces : List Piece) → takes_all Allowed hand pieces ≡ true → AllButOne weights hand (length pieces) (weight_of weights pieces)
unfolding takes_all takes without_first without_second weight_of first_weights code_at
weight-allowed weights hand [] taken = record { index = 0; low = omega arith; sum = omega arith }
weight-allowed weights hand (piece ∷ pieces) taken = elim (or_cases (hand % 8 == piece_code piece && takes_all Allowed (hand / 8) pieces) _ taken) [
  | inl first ↦
      let parts = and_parts (hand % 8 == piece_code piece) (takes_all Allowed (hand / 8) pieces) first in
      let same = ap (λ code. get_or weights code 0) (eqb-true (hand % 8) (piece_code piece) parts.0) in
      let old = weight-allowed weights (hand / 8) pieces parts.1 in
      record { index = suc old.index; low = let low = old.low in omega arith; sum = omega (arith, same, old.sum) }
  | inr second ↦
      let later = (and_parts true (hand / 8 % 8 == piece_code piece && takes_all Allowed (hand / 64 * 8 + hand % 8) pieces) second).1 in
      let parts = and_parts (hand / 8 % 8 == piece_code piece) (takes_all Allowed (hand / 64 * 8 + hand % 8) pieces) later in
      let same = ap (λ code. get_or weights code 0) (eqb-true (hand / 8 % 8) (piece_code piece) parts.0) in
      let old = weight-allowed weights (hand / 64 * 8 + hand % 8) pieces parts.1 in
      behind old.index old.low same old.sum
]
  where
    low : (hand / 64 * 8 + hand % 8) % 8 ≡ hand % 8
    low = omega arith

    high : (hand / 64 * 8 + hand % 8) / 8 ≡ hand / 8 / 8
    high = omega arith

    behind : (index : ℕ) → index ≤ length pieces → get_or weights (hand / 8 % 8) 0 ≡ get_or weights (piece_code piece) 0
        → weight_of weights pieces + get_or weights (code_at (hand / 64 * 8 + hand % 8) index) 0 ≡ get_or weights ((hand / 64 * 8 + hand % 8) % 8) 0 + first_weights weights (length pieces) ((hand / 64 * 8 + hand % 8) / 8)
        → AllButOne weights hand (suc (length pieces)) (get_or weights (piece_code piece) 0 + weight_of weights pieces)
    behind zero few same sum = record {
      index = 0;
      low = omega arith;
      sum = omega (arith, same, sum, ap (λ code. get_or weights code 0) low, ap (first_weights weights (length pieces)) high);
    }
    behind (suc index) few same sum = record {
      index = suc (suc index);
      low = omega arith;
      sum = omega (arith, same, sum, ap (λ code. get_or weights code 0) low, ap (first_weights weights (length pieces)) high, ap (λ rest. get_or weights (code_at rest index) 0) high);
    }

-- so it is enough that these sums are allowed
pub allows-first : (left hand : ℕ) (weights allowed : List ℕ) (bit : ℕ) → ((count : ℕ) → 0 < count → count ≤ left → has_bit (get_or allowed (first_weights weights count hand) 0) bit ≡ true)
    → AllowsTaken Avoided left hand weights allowed bit
allows-first left hand weights allowed bit set = record {
  each = λ pieces some few taken. ap (λ n. has_bit (get_or allowed n 0) bit) (weight-avoided weights hand pieces taken) ∙ set (length pieces) some few;
}

pub allows-but-one : (left hand : ℕ) (weights allowed : List ℕ) (bit : ℕ)
    → ((count index weight : ℕ) → 0 < count → count ≤ left → index ≤ count → weight + get_or weights (code_at hand index) 0 ≡ first_weights weights (suc count) hand → has_bit (get_or allowed weight 0) bit ≡ true)
    → AllowsTaken Allowed left hand weights allowed bit
allows-but-one left hand weights allowed bit set = record {
  each = λ pieces some few taken.
      let one = weight-allowed weights hand pieces taken in
      set (length pieces) one.index (weight_of weights pieces) some few one.low one.sum;
}
