-- Each piece was tried as the first one.
use Rattle.std.proofs.Common.{◌≡◌, ℕ, ◌<◌, List, [], ◌∷◌, get_or, refl, sym, subst, arith}
use Rattle.std.specs.Prelude.{Option}
use Rattle.srs.specs.declared.piece.Piece.{Piece}
use Rattle.srs.specs.declared.piece.Piece.TheVariants.{I, L, O, Z, T, J, S}
use Rattle.srs.specs.Piece.{all_pieces}
use Rattle.queue_pattern.specs.declared.element.Element.{Element}
use Rattle.queue_pattern.specs.Queues.{queues}
use Rattle.hold_queue.specs.declared.hold.Hold.{Hold}
use Rattle.hold_queue.specs.Permits.{SomePermits}
use Rattle.hold_queue.specs.QueueSet.{QueuesInPlay, QueuesPermit}

-- each piece has a place in the order of codes
pub place_of : (piece : Piece) → (k : ℕ) × (k < 7) × (get_or all_pieces k I ≡ piece)
place_of I = (0, omega arith, refl)
place_of L = (1, omega arith, refl)
place_of O = (2, omega arith, refl)
place_of Z = (3, omega arith, refl)
place_of T = (4, omega arith, refl)
place_of J = (5, omega arith, refl)
place_of S = (6, omega arith, refl)

-- where no first piece goes before another one, no queue permits the two
pub none_second : (elements : List Element) (hold : Hold) (held : Option Piece) (line : QueuesInPlay) → line ≡ record { elements = elements; hold = hold; held = held; played = [] } → (piece : Piece)
    → ((k : ℕ) → k < 7 → QueuesPermit line (get_or all_pieces k I ∷ piece ∷ []) → ⊥) → ((first : Piece) × SomePermits hold (queues elements) held (first ∷ piece ∷ [])) → ⊥
none_second elements hold held line is piece none both =
    let place = place_of both.0 in
    none place.0 place.1
    (subst (λ p. QueuesPermit line (p ∷ piece ∷ [])) (sym place.2) (subst (λ (l : QueuesInPlay). QueuesPermit l (both.0 ∷ piece ∷ [])) (sym is) both.1))
