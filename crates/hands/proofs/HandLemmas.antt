-- Taking from pieces at hand is taking from their number.
use Rattle.std.proofs.Common.{ℕ, ◌≡◌, ◌/◌, ◌%◌, ◌<◌, ◌^◌, Bool, true, ◌&&◌, ◌||◌, ◌==◌, List, [], ◌∷◌, length, sym, subst, ◌∙◌, inl, inr, arith}
use Rattle.std.proofs.lemmas.Bool.{and_from, and_parts, eq-eqb, eqb-true, or_cases, or_left, or_right}
use Rattle.std.proofs.Math.Nat.{pow-succ'}
use Rattle.srs.specs.declared.piece.Piece.{Piece}
use Rattle.srs.specs.Piece.{piece_code}
use Rattle.srs.proofs.CallerLemmas.{piece_code-injective, piece_code-small, piece_code-some}
use Rattle.hold_queue.specs.declared.hold.Hold.{Hold}
use Rattle.hold_queue.specs.declared.hold.Hold.TheVariants.{Allowed, Avoided}
use Rattle.hold_queue.specs.AtHand.{Take, take_first, take_second}
use Rattle.hands.specs.Hands.{number_of, allows_hold, takes, without_first, without_second}

first-code : (piece : Piece) (rest : List Piece) → number_of (piece ∷ rest) % 8 ≡ piece_code piece
unfolding number_of
first-code piece rest = omega (arith, piece_code-small piece)

first-left : (piece : Piece) (rest : List Piece) → without_first (number_of (piece ∷ rest)) ≡ number_of rest
unfolding number_of without_first
first-left piece rest = omega (arith, piece_code-small piece)

second-code : (first piece : Piece) (rest : List Piece) → number_of (first ∷ piece ∷ rest) / 8 % 8 ≡ piece_code piece
unfolding number_of
second-code first piece rest = omega (arith, piece_code-small first, piece_code-small piece)

second-left : (first piece : Piece) (rest : List Piece) → without_second (number_of (first ∷ piece ∷ rest)) ≡ number_of (first ∷ rest)
unfolding number_of without_second
second-left first piece rest = omega (arith, piece_code-small first, piece_code-small piece)

-- a way to take a piece, after which a test passes
abbrev pub TakesSo : Hold → List Piece → Piece → (ℕ → Bool) → Type 0
TakesSo hold hand piece goes_on = (rest : List Piece) × Take hold hand piece rest × (goes_on (number_of rest) ≡ true)

at_first : (hold : Hold) (hand : List Piece) (piece : Piece) (goes_on : ℕ → Bool)
    → number_of hand % 8 ≡ piece_code piece → goes_on (without_first (number_of hand)) ≡ true → TakesSo hold hand piece goes_on
unfolding number_of
at_first hold [] piece goes_on same passes = absurd (omega (arith, same, piece_code-some piece))
at_first hold (first ∷ rest) piece goes_on same passes =
    let is : first ≡ piece = piece_code-injective first piece (sym (first-code first rest) ∙ same) in
    (rest, subst (λ p. Take hold (first ∷ rest) p rest) is take_first, subst (λ n. goes_on n ≡ true) (first-left first rest) passes)

at_second : (hand : List Piece) (piece : Piece) (goes_on : ℕ → Bool)
    → number_of hand / 8 % 8 ≡ piece_code piece → goes_on (without_second (number_of hand)) ≡ true → TakesSo Allowed hand piece goes_on
unfolding number_of
at_second [] piece goes_on same passes = absurd (omega (arith, same, piece_code-some piece))
at_second (first ∷ []) piece goes_on same passes = absurd (omega (arith, same, piece_code-some piece, piece_code-small first))
at_second (first ∷ second ∷ rest) piece goes_on same passes =
    let is : second ≡ piece = piece_code-injective second piece (sym (second-code first second rest) ∙ same) in
    (first ∷ rest, subst (λ p. Take Allowed (first ∷ second ∷ rest) p (first ∷ rest)) is take_second, subst (λ n. goes_on n ≡ true) (second-left first second rest) passes)

by_second : (hold : Hold) (hand : List Piece) (piece : Piece) (goes_on : ℕ → Bool)
    → (allows_hold hold && (number_of hand / 8 % 8 == piece_code piece && goes_on (without_second (number_of hand)))) ≡ true → TakesSo hold hand piece goes_on
by_second Avoided hand piece goes_on passes = cc
by_second Allowed hand piece goes_on passes =
    let parts = and_parts (number_of hand / 8 % 8 == piece_code piece) (goes_on (without_second (number_of hand))) passes in
    at_second hand piece goes_on (eqb-true (number_of hand / 8 % 8) (piece_code piece) parts.0) parts.1

pub takes-to : (hold : Hold) (hand : List Piece) (piece : Piece) (goes_on : ℕ → Bool)
    → takes hold (piece_code piece) goes_on (number_of hand) ≡ true → TakesSo hold hand piece goes_on
unfolding takes
takes-to hold hand piece goes_on passes = elim (or_cases (number_of hand % 8 == piece_code piece && goes_on (without_first (number_of hand))) _ passes) [
  | inl first ↦
      let parts = and_parts (number_of hand % 8 == piece_code piece) (goes_on (without_first (number_of hand))) first in
      at_first hold hand piece goes_on (eqb-true (number_of hand % 8) (piece_code piece) parts.0) parts.1
  | inr second ↦ by_second hold hand piece goes_on second
]

pub takes-from : (hold : Hold) (hand : List Piece) (piece : Piece) (rest : List Piece) (goes_on : ℕ → Bool)
    → Take hold hand piece rest → goes_on (number_of rest) ≡ true → takes hold (piece_code piece) goes_on (number_of hand) ≡ true
unfolding takes
takes-from hold [] piece rest goes_on taken passes = elim taken [ ]
takes-from hold (first ∷ hand) piece rest goes_on take_first passes =
    or_left _ _ (and_from _ _ (eq-eqb _ _ (first-code piece rest)) (subst (λ n. goes_on n ≡ true) (sym (first-left piece rest)) passes))
takes-from Allowed (first ∷ second ∷ hand) piece rest goes_on take_second passes =
    or_right (number_of (first ∷ piece ∷ hand) % 8 == piece_code piece && goes_on (without_first (number_of (first ∷ piece ∷ hand)))) _
    (and_from _ _ (eq-eqb _ _ (second-code first piece hand)) (subst (λ n. goes_on n ≡ true) (sym (second-left first piece hand)) passes))

-- so many pieces make a number of three bits each
pub number-below : (pieces : List Piece) → number_of pieces < 8 ^ length pieces
unfolding number_of
number-below [] = omega arith
number-below (piece ∷ pieces) = omega (arith, piece_code-small piece, number-below pieces, pow-succ' 8 (length pieces))
