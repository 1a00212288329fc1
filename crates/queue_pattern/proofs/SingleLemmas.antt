-- The pattern of one queue: each piece is an element.
use Rattle.std.proofs.Common.{◌≡◌, ◌≤◌, ◌==◌, List, [], ◌∷◌, length, refl, arith, rules, Ok, eqb-true}
use Rattle.std.proofs.lemmas.Bool.Decides.{nat_tests}
use Rattle.std.proofs.lemmas.List.Sums.{sum_by-cons}
use Rattle.srs.specs.declared.piece.Piece.{Piece}
use Rattle.srs.proofs.CallerLemmas.{each_piece}
use Rattle.queue_pattern.specs.declared.element.Element.{Element}
use Rattle.queue_pattern.specs.Grammar.{limited, set_of, single, singles}
use Rattle.queue_pattern.specs.Queues.{pieces_in, choices, queues, falling_factor, queue_len, queue_count}

queue_len-singles : (queue : List Piece) → queue_len (singles queue) ≡ length queue
queue_len-singles [] = refl
queue_len-singles (piece ∷ queue) = omega (arith, sum_by-cons (λ (e : Element). e.chosen) (single piece) (singles queue), queue_len-singles queue)

one_way : (piece : Piece) → falling_factor (length (pieces_in (set_of piece))) 1 ≡ 1
unfolding pieces_in falling_factor
one_way piece = eqb-true _ _ (each_piece (λ p. falling_factor (length (pieces_in (set_of p))) 1 == 1) refl piece)

queue_count-singles : (queue : List Piece) → queue_count (singles queue) ≡ 1
unfolding queue_count
queue_count-singles [] = refl
queue_count-singles (piece ∷ queue) = rw (one_way piece, queue_count-singles queue) refl

-- a queue of at most 22 pieces is within the limits
pub limited-singles : (queue : List Piece) → length queue ≤ 22 → limited (Ok (singles queue)) ≡ Ok (singles queue)
limited-singles queue short = grind (arith, nat_tests, queue_len-singles queue, queue_count-singles queue)

pieces_in-single : (piece : Piece) → pieces_in (set_of piece) ≡ piece ∷ []
unfolding pieces_in
pieces_in-single piece = search rules

choices-single : (piece : Piece) → choices (piece ∷ []) 1 ≡ (piece ∷ []) ∷ []
unfolding choices
choices-single piece = refl

-- the elements of one queue stand for this queue
pub queues-singles : (queue : List Piece) → queues (singles queue) ≡ queue ∷ []
unfolding queues
queues-singles [] = refl
queues-singles (piece ∷ queue) = search (rules, pieces_in-single, choices-single, (queues-singles queue))
