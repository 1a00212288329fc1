-- So many pieces are taken from the first of the pieces at hand alone.
use Rattle.std.proofs.Common.{ℕ, zero, suc, ◌≡◌, ◌≤◌, ◌↔◌, List, [], ◌∷◌, length, take, refl, arith, rules}
use Rattle.srs.specs.declared.piece.Piece.{Piece}
use Rattle.hold_queue.specs.declared.hold.Hold.{Hold}
use Rattle.hold_queue.specs.declared.hold.Hold.TheVariants.{Allowed, Avoided}
use Rattle.hold_queue.specs.AtHand.{Take, take_first, take_second, Takes, taken_from}
use Rattle.hold_queue.proofs.AtHandLemmas.{take-nothing}

-- taking where the later pieces are cut off
take-cut : (hold : Hold) (m : ℕ) (hand : List Piece) (piece : Piece) (rest : List Piece) → taken_from hold 1 ≤ suc m
    → Take hold hand piece rest → Take hold (take (suc m) hand) piece (take m rest)
take-cut Avoided m [] piece rest enough taken = elim taken [ ]
take-cut Avoided m (first ∷ hand) piece rest enough take_first = take_first
take-cut Allowed zero hand piece rest enough taken = absurd (omega arith)
take-cut Allowed (suc m) [] piece rest enough taken = elim taken [ ]
take-cut Allowed (suc m) (first ∷ hand) piece rest enough take_first = take_first
take-cut Allowed (suc m) (first ∷ second ∷ hand) piece rest enough take_second = take_second

takes-cut : (hold : Hold) (m : ℕ) (hand pieces : List Piece) → taken_from hold (length pieces) ≤ m → Takes hold hand pieces → Takes hold (take m hand) pieces
takes-cut hold m hand [] enough taken = tt
takes-cut Avoided zero hand (piece ∷ pieces) enough taken = absurd (omega arith)
takes-cut Allowed zero hand (piece ∷ pieces) enough taken = absurd (omega arith)
takes-cut Avoided (suc m) hand (piece ∷ pieces) enough taken =
    (take m taken.0, take-cut Avoided m hand piece taken.0 (omega arith) taken.1, takes-cut Avoided m taken.0 pieces (omega arith) taken.2)
takes-cut Allowed (suc m) hand (piece ∷ pieces) enough taken =
    (take m taken.0, take-cut Allowed m hand piece taken.0 (omega arith) taken.1, takes-cut Allowed m taken.0 pieces (omega arith) taken.2)

-- what is left of the whole, whose front is what is left of the front
abbrev RestOf : Hold → ℕ → List Piece → Piece → List Piece → Type 0
RestOf hold m hand piece front = (rest : List Piece) × Take hold hand piece rest × (front ≡ take m rest)

take-whole : (hold : Hold) (m : ℕ) (hand : List Piece) (piece : Piece) (front : List Piece) → Take hold (take (suc m) hand) piece front → RestOf hold m hand piece front
take-whole Avoided m [] piece front taken = elim taken [ ]
take-whole Avoided m (first ∷ hand) piece front take_first = (hand, take_first, refl)
take-whole Allowed zero [] piece front taken = elim taken [ ]
take-whole Allowed zero (first ∷ hand) piece front take_first = (hand, take_first, refl)
take-whole Allowed (suc m) [] piece front taken = elim taken [ ]
take-whole Allowed (suc m) (first ∷ []) piece front take_first = ([], take_first, refl)
take-whole Allowed (suc m) (first ∷ second ∷ hand) piece front take_first = (second ∷ hand, take_first, refl)
take-whole Allowed (suc m) (first ∷ second ∷ hand) piece front take_second = (first ∷ hand, take_second, refl)

takes-whole : (hold : Hold) (m : ℕ) (hand pieces : List Piece) → Takes hold (take m hand) pieces → Takes hold hand pieces
takes-whole hold m hand [] taken = tt
takes-whole hold zero hand (piece ∷ pieces) taken = absurd (take-nothing hold piece taken.0 taken.1)
takes-whole hold (suc m) hand (piece ∷ pieces) taken = search (rules, take-whole, (takes-whole hold m))

pub takes-is_cut : (hold : Hold) (count : ℕ) (hand pieces : List Piece) → taken_from hold (length pieces) ≤ count → Takes hold hand pieces ↔ Takes hold (take count hand) pieces
takes-is_cut hold count hand pieces enough = (takes-cut hold count hand pieces enough, takes-whole hold count hand pieces)
