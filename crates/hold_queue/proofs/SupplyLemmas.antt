-- No permitted list has more of a kind than the elements with that kind and a piece that is held.
use Rattle.std.proofs.Common.{◌≡◌, ℕ, zero, suc, ◌+◌, ◌-◌, ◌≤◌, Bool, not, cond, ◌==◌, Option, Some, List, [], ◌∷◌, ◌++◌, length, map, count_by, take, slice_get, Contains, refl, ap, ◌∙◌, subst, arith, inl, inr, eqb-true, eq-eqb, rules}
use Rattle.std.specs.Int.{bit_at}
use Rattle.std.proofs.lemmas.Bool.{cases_Bool, both_ways, not-true}
use Rattle.std.proofs.lemmas.List.{take_more}
use Rattle.std.proofs.lemmas.Option.{get_or_from_slice_get, slice_get_within}
use Rattle.std.proofs.lemmas.List.Sums.{sum_by-cons, sum_by-append, sum_by_push, count_by-le-length}
use Rattle.srs.specs.declared.piece.Piece.{Piece}
use Rattle.srs.specs.Piece.{all_pieces, piece_code}
use Rattle.srs.proofs.CallerLemmas.{piece_code-injective, Contains-none, Contains-cases, Contains-from_filter, Contains-from_flat_map, Contains-from_map}
use Rattle.queue_pattern.specs.declared.element.Element.{Element}
use Rattle.queue_pattern.specs.Queues.{pieces_in, others, choices, queues}
use Rattle.hold_queue.specs.declared.hold.Hold.{Hold}
use Rattle.hold_queue.specs.Permits.{Way, plain, exchange, first_hold, last, Permits}
use Rattle.hold_queue.specs.QueueSet.{QueuesInPlay, QueuesPermit}
use Rattle.hold_queue.specs.Supply.{from_hold, supply_in_play}

abbrev is : Piece → Piece → Bool
is piece other = piece_code other == piece_code piece

abbrev one_if : Bool → ℕ
one_if b = cond b 1 0

count-cons : {X : Type 0} (test : X → Bool) (x : X) (xs : List X) → count_by test (x ∷ xs) ≡ one_if (test x) + count_by test xs
count-cons test x xs = sum_by-cons (λ y. cond (test y) 1 0) x xs

one_if-le : (b : Bool) → one_if b ≤ 1
one_if-le b = search rules

-- one more element is counted
pub count-more : {X : Type 0} (test : X → Bool) (xs : List X) (i : ℕ) (x : X) (count : ℕ) → slice_get xs i ≡ Some x → count ≡ count_by test (take i xs)
    → count + one_if (test x) ≡ count_by test (take (i + 1) xs)
count-more test xs i x count there so_far =
    let more : take (i + 1) xs ≡ take i xs ++ x ∷ [] = take_more xs i x (slice_get_within xs i x there) ∙ ap (λ y. take i xs ++ y ∷ []) (get_or_from_slice_get xs i x x there) in
    omega (arith, so_far, ap (count_by test) more, sum_by_push (λ y. one_if (test y)) (take i xs) x)

-- a choice has a piece at most once, and only where the set has it
choice-none : (piece : Piece) (n : ℕ) (pieces choice : List Piece) → (Contains pieces piece → ⊥) → Contains (choices pieces n) choice → count_by (is piece) choice ≡ 0
unfolding choices others
choice-none piece zero pieces choice lacks among = search (rules, Contains-cases, Contains-none)
choice-none piece (suc n) pieces choice lacks among =
    let found = Contains-from_flat_map (λ p. map (λ rest. p ∷ rest) (choices (others p pieces) n)) pieces choice among in
    let tail = Contains-from_map (λ rest. found.0 ∷ rest) (choices (others found.0 pieces) n) choice found.2 in
    search (rules, Contains-from_filter, cases_Bool, piece_code-injective, eqb-true, count-cons, (choice-none piece n (others found.0 pieces) tail.0 (λ there. lacks (Contains-from_filter (λ p. not (piece_code p == piece_code found.0)) pieces piece there).0) tail.1))

others-lacks : (piece : Piece) (pieces : List Piece) → Contains (others piece pieces) piece → ⊥
unfolding others
others-lacks piece pieces there =
    let kept = (Contains-from_filter (λ p. not (piece_code p == piece_code piece)) pieces piece there).1 in
    both_ways _ (not-true _ kept) (eq-eqb (piece_code piece) (piece_code piece) refl)

choice-once : (piece : Piece) (n : ℕ) (pieces choice : List Piece) → Contains (choices pieces n) choice → count_by (is piece) choice ≤ 1
unfolding choices
choice-once piece zero pieces choice among = search (rules, Contains-cases, Contains-none)
choice-once piece (suc n) pieces choice among =
    let found = Contains-from_flat_map (λ p. map (λ rest. p ∷ rest) (choices (others p pieces) n)) pieces choice among in
    let tail = Contains-from_map (λ rest. found.0 ∷ rest) (choices (others found.0 pieces) n) choice found.2 in
    subst (λ c. count_by (is piece) c ≤ 1) tail.2 (elim (cases_Bool (is piece found.0)) [
      | inl same ↦
          let at : found.0 ≡ piece = piece_code-injective found.0 piece (eqb-true _ _ same) in
          let none = choice-none piece n (others found.0 pieces) tail.0 (λ there. others-lacks piece pieces (subst (λ p. Contains (others p pieces) piece) at there)) tail.1 in
          omega (arith, count-cons (is piece) found.0 tail.0, one_if-le (is piece found.0), none)
      | inr differs ↦ omega (arith, count-cons (is piece) found.0 tail.0, ap one_if differs, choice-once piece n (others found.0 pieces) tail.0 tail.1)
    ])

abbrev has : Piece → Element → Bool
has piece element = bit_at element.set (piece_code piece - 1) == 1

choice-count : (piece : Piece) (e : Element) (choice : List Piece) → Contains (choices (pieces_in e.set) e.chosen) choice → count_by (is piece) choice ≤ one_if (has piece e)
unfolding pieces_in
choice-count piece e choice among = elim (cases_Bool (has piece e)) [
  | inl inside ↦ omega (arith, ap one_if inside, choice-once piece e.chosen (pieces_in e.set) choice among)
  | inr outside ↦ omega (
    arith,
    choice-none piece e.chosen (pieces_in e.set) choice
        (λ there. let h = (Contains-from_filter (λ p. bit_at e.set (piece_code p - 1) == 1) all_pieces piece there).1 in cc (h, outside)) among,
  )
]

-- a queue has no more of a kind than there are elements with it
pub queue-count : (piece : Piece) (elements : List Element) (queue : List Piece) → Contains (queues elements) queue
    → count_by (is piece) queue ≤ count_by (has piece) elements
unfolding queues
queue-count piece [] queue among = search (rules, Contains-cases, Contains-none)
queue-count piece (e ∷ elements) queue among =
    let found = Contains-from_flat_map (λ choice. map (λ rest. choice ++ rest) (queues elements)) (choices (pieces_in e.set) e.chosen) queue among in
    let tail = Contains-from_map (λ rest. found.0 ++ rest) (queues elements) queue found.2 in
    subst (λ q. count_by (is piece) q ≤ count_by (has piece) (e ∷ elements)) tail.2
    (omega (arith, sum_by-append (λ p. one_if (is piece p)) found.0 tail.0, choice-count piece e found.0 found.1, queue-count piece elements tail.0 tail.1, count-cons (has piece) e elements))

way-count : (kind : Piece) {hold : Hold} {queue : List Piece} {held : Option Piece} {piece : Piece} {rest : List Piece} {after : Option Piece}
    → Way hold queue held piece rest after
    → one_if (is kind piece) + count_by (is kind) rest + from_hold hold after kind ≤ count_by (is kind) queue + from_hold hold held kind
way-count kind (plain {piece = piece} {queue = queue}) = omega (arith, count-cons (is kind) piece queue)
way-count kind (exchange {first = first} {queue = queue} {piece = piece}) = omega (arith, count-cons (is kind) first queue)
way-count kind (first_hold {first = first} {piece = piece} {queue = queue}) = omega (arith, count-cons (is kind) first (piece ∷ queue), count-cons (is kind) piece queue)
way-count kind (last {piece = piece}) = omega arith

pub permits-count : (kind : Piece) (hold : Hold) (pieces queue : List Piece) (held : Option Piece) → Permits hold queue held pieces
    → count_by (is kind) pieces ≤ count_by (is kind) queue + from_hold hold held kind
permits-count kind hold [] queue held permitted = omega arith
permits-count kind hold (piece ∷ pieces) queue held permitted =
    omega (arith, count-cons (is kind) piece pieces, way-count kind permitted.2, permits-count kind hold pieces permitted.0 permitted.1 permitted.3)

pub supply-enough : (line : QueuesInPlay) (more : List Piece) (piece : Piece) → QueuesPermit line (line.played ++ more) → count_by (is piece) more ≤ supply_in_play line (length more) piece
supply-enough line more piece permitted =
    omega (
      arith,
      permits-count piece line.hold (line.played ++ more) permitted.0 line.held permitted.2,
      queue-count piece line.elements permitted.0 permitted.1,
      sum_by-append (λ p. one_if (is piece p)) line.played more,
      count_by-le-length (is piece) more,
    )
