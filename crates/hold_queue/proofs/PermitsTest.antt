-- The tests decide what queues permit.
use Rattle.std.proofs.Common.{◌≡◌, Bool, true, ◌&&◌, ◌||◌, ◌↔◌, inl, inr, List, [], ◌∷◌, Option, Some, None, refl, arith, rules}
use Rattle.std.proofs.lemmas.Bool.{and_parts, and_from, or_cases, or_left, or_right}
use Rattle.std.proofs.lemmas.List.Folds.{Any-from_list_any, list_any-from_Any}
use Rattle.std.proofs.lemmas.Bool.Decides.{nat_tests}
use Rattle.srs.specs.declared.piece.Piece.{Piece}
use Rattle.srs.proofs.CallerLemmas.{piece_code-injective}
use Rattle.hold_queue.specs.declared.hold.Hold.{Hold}
use Rattle.hold_queue.specs.Permits.{Way, plain, exchange, first_hold, last, Permits, SomePermits, permits, some_permits, same_piece, plays_first, plays_held}
use Rattle.hold_queue.specs.QueueSet.{QueuesInPlay, QueuesPermit, queues_permit}

pub same_piece-is : (p q : Piece) → same_piece p q ≡ true → p ≡ q
same_piece-is p q same = piece_code-injective p q (grind (arith, nat_tests))

pub same_piece-itself : (p : Piece) → same_piece p p ≡ true
same_piece-itself p = grind (arith, nat_tests)

-- a way and what it leaves, for which a test holds
abbrev SomeWay : Hold → List Piece → Option Piece → Piece → (List Piece → Option Piece → Bool) → Type 0
SomeWay hold queue held piece goes_on = (rest : List Piece) × (after : Option Piece) × Way hold queue held piece rest after × (goes_on rest after ≡ true)

first_way : (hold : Hold) (queue : List Piece) (held : Option Piece) (piece : Piece) (goes_on : List Piece → Option Piece → Bool)
    → plays_first queue piece (λ rest. goes_on rest held) ≡ true → SomeWay hold queue held piece goes_on
first_way hold queue held piece goes_on taken = search (rules, and_parts, same_piece-is, plain)

held_way : (hold : Hold) (queue : List Piece) (held : Option Piece) (piece : Piece) (goes_on : List Piece → Option Piece → Bool)
    → plays_held hold queue held piece goes_on ≡ true → SomeWay hold queue held piece goes_on
held_way hold queue held piece goes_on taken = search (rules, and_parts, same_piece-is, last, exchange, first_hold)

way_taken : {hold : Hold} {queue : List Piece} {held : Option Piece} {piece : Piece} {rest : List Piece} {after : Option Piece} (goes_on : List Piece → Option Piece → Bool)
    → Way hold queue held piece rest after → goes_on rest after ≡ true
    → (plays_first queue piece (λ r. goes_on r held) || plays_held hold queue held piece goes_on) ≡ true
way_taken goes_on (plain {piece = piece} {queue = queue} {held = held}) on = or_left (same_piece piece piece && goes_on queue held) _ (and_from _ _ (same_piece-itself piece) on)
way_taken goes_on (exchange {first = first} {queue = queue} {piece = piece}) on = or_right (plays_first (first ∷ queue) piece (λ r. goes_on r (Some piece))) _ (and_from _ _ (same_piece-itself piece) on)
way_taken goes_on (first_hold {first = first} {piece = piece} {queue = queue}) on = or_right (plays_first (first ∷ piece ∷ queue) piece (λ r. goes_on r None)) _ (and_from _ _ (same_piece-itself piece) on)
way_taken goes_on (last {piece = piece}) on = or_right (plays_first [] piece (λ r. goes_on r (Some piece))) _ (and_from _ _ (same_piece-itself piece) on)

permits-from : (hold : Hold) (pieces : List Piece) (queue : List Piece) (held : Option Piece) → permits hold queue held pieces ≡ true → Permits hold queue held pieces
unfolding permits
permits-from hold [] queue held h = tt
permits-from hold (piece ∷ pieces) queue held h =
    elim (or_cases (plays_first queue piece (λ rest. permits hold rest held pieces)) (plays_held hold queue held piece (λ rest after. permits hold rest after pieces)) h) [
      | inl first ↦ let way = first_way hold queue held piece (λ rest after. permits hold rest after pieces) first in
          (way.0, way.1, way.2, permits-from hold pieces way.0 way.1 way.3)
      | inr kept ↦ search (rules, held_way, (permits-from hold pieces))
    ]

permits-to : (hold : Hold) (pieces : List Piece) (queue : List Piece) (held : Option Piece) → Permits hold queue held pieces → permits hold queue held pieces ≡ true
unfolding permits
permits-to hold [] queue held h = refl
permits-to hold (piece ∷ pieces) queue held h = search (rules, way_taken, (permits-to hold pieces h.0 h.1 h.3))

pub permits-decides : (hold : Hold) (queue : List Piece) (held : Option Piece) (pieces : List Piece) → (permits hold queue held pieces ≡ true) ↔ Permits hold queue held pieces
permits-decides hold queue held pieces = (permits-from hold pieces queue held, permits-to hold pieces queue held)

pub some_permits-decides : (hold : Hold) (queues : List (List Piece)) (held : Option Piece) (pieces : List Piece) → (some_permits hold queues held pieces ≡ true) ↔ SomePermits hold queues held pieces
some_permits-decides hold queues held pieces =
    search (rules, Any-from_list_any, permits-from, list_any-from_Any, permits-to)

pub queues_permit-decides : (line : QueuesInPlay) (pieces : List Piece) → (queues_permit line pieces ≡ true) ↔ QueuesPermit line pieces
queues_permit-decides line pieces = some_permits-decides line.hold _ line.held pieces
