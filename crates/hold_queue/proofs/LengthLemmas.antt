-- How many pieces a queue permits: its own, and one that is held.
use Rattle.std.proofs.Common.{◌≡◌, ℕ, zero, suc, ◌+◌, ◌≤◌, Option, List, [], ◌∷◌, ◌++◌, length, length-append, map, Contains, ap, ◌∙◌, sym, arith, rules}
use Rattle.std.proofs.lemmas.List.Sums.{sum_by-cons}
use Rattle.srs.specs.declared.piece.Piece.{Piece}
use Rattle.srs.proofs.CallerLemmas.{Contains-none, Contains-cases, Contains-from_flat_map, Contains-from_map}
use Rattle.queue_pattern.specs.declared.element.Element.{Element}
use Rattle.queue_pattern.specs.Queues.{pieces_in, others, choices, queues, queue_len}
use Rattle.hold_queue.specs.declared.hold.Hold.{Hold}
use Rattle.hold_queue.specs.AtHand.{at_hand}
use Rattle.hold_queue.specs.Permits.{Permits}
use Rattle.hold_queue.specs.QueueSet.{QueuesInPlay, QueuesPermit}
use Rattle.hold_queue.specs.AtHand.{count_held}
use Rattle.hold_queue.proofs.AtHandLemmas.{takes-length, takes-of_permits}

choice-length : (n : ℕ) (pieces choice : List Piece) → Contains (choices pieces n) choice → length choice ≡ n
unfolding choices
choice-length zero pieces choice among = search (rules, Contains-cases, Contains-none)
choice-length (suc n) pieces choice among =
    let found = Contains-from_flat_map (λ piece. map (λ rest. piece ∷ rest) (choices (others piece pieces) n)) pieces choice among in
    let tail = Contains-from_map (λ rest. found.0 ∷ rest) (choices (others found.0 pieces) n) choice found.2 in
    ap length (sym tail.2) ∙ ap suc (choice-length n (others found.0 pieces) tail.0 tail.1)

-- each queue has the pieces that the elements choose
pub queue-length : (elements : List Element) (queue : List Piece) → Contains (queues elements) queue → length queue ≡ queue_len elements
unfolding queues
queue-length [] queue among = search (rules, Contains-cases, Contains-none)
queue-length (e ∷ elements) queue among =
    let found = Contains-from_flat_map (λ choice. map (λ rest. choice ++ rest) (queues elements)) (choices (pieces_in e.set) e.chosen) queue among in
    let tail = Contains-from_map (λ rest. found.0 ++ rest) (queues elements) queue found.2 in
    ap length (sym tail.2) ∙ omega (
      arith,
      length-append found.0 tail.0,
      choice-length e.chosen (pieces_in e.set) found.0 found.1,
      queue-length elements tail.0 tail.1,
      sum_by-cons (λ (x : Element). x.chosen) e elements,
    )

at_hand-length : (hold : Hold) (held : Option Piece) (queue : List Piece) → length (at_hand hold held queue) ≤ length queue + count_held held
at_hand-length hold held queue = search rules

pub permits-length : (hold : Hold) (pieces queue : List Piece) (held : Option Piece) → Permits hold queue held pieces → length pieces ≤ length queue + count_held held
permits-length hold pieces queue held permitted = search (rules, at_hand-length, takes-length, takes-of_permits)

pub line-length : (line : QueuesInPlay) (pieces : List Piece) → QueuesPermit line pieces → length pieces ≤ queue_len line.elements + count_held line.held
line-length line pieces permitted = omega (arith, permits-length line.hold pieces permitted.0 line.held permitted.2, queue-length line.elements permitted.0 permitted.1)
