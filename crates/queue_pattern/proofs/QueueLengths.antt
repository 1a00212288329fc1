-- Each queue of a pattern has as many pieces as its elements choose together.
use Rattle.std.proofs.Common.{◌≡◌, ℕ, zero, suc, List, [], ◌∷◌, ◌++◌, length, length-append, refl, arith, map, All, rules}
use Rattle.std.specs.List.{flat_map}
use Rattle.std.proofs.lemmas.List.Elements.{All-nil, All-cons, All-head, All-tail, All-append, All-map, All-weaker}
use Rattle.std.proofs.lemmas.List.Sums.{sum_by-cons}
use Rattle.srs.specs.declared.piece.Piece.{Piece}
use Rattle.queue_pattern.specs.declared.element.Element.{Element}
use Rattle.queue_pattern.specs.Queues.{pieces_in, others, choices, queues, queue_len}

-- what holds of each part holds of all parts together
all-flat : {X A : Type 0} (P : A → Type 0) (Q : X → Type 0) (f : X → List A) (xs : List X) → ((x : X) → Q x → All P (f x))
    → All Q xs → All P (flat_map f xs)
all-flat P Q f [] part all = All-nil P
all-flat P Q f (x ∷ xs) part all = search (rules, All-append, All-head, All-tail, (all-flat P Q f xs part))

-- nothing is said of a piece
abbrev Whichever : Piece → Type 0
Whichever piece = Unit {0}

all-whichever : (pieces : List Piece) → All Whichever pieces
all-whichever pieces = search (rules, All-nil, All-cons)

choices-long : (n : ℕ) (pieces : List Piece) → All (λ choice. length choice ≡ n) (choices pieces n)
unfolding choices
choices-long zero pieces = All-cons (λ choice. length choice ≡ 0) [] [] refl (All-nil (λ choice. length choice ≡ 0))
choices-long (suc n) pieces =
    all-flat (λ choice. length choice ≡ suc n) Whichever (λ piece. map (λ rest. piece ∷ rest) (choices (others piece pieces) n))
    pieces (λ piece any. All-map (λ choice. length choice ≡ suc n) (λ rest. piece ∷ rest) (choices (others piece pieces) n)
    (All-weaker (λ rest. length rest ≡ n) (λ rest. length (piece ∷ rest) ≡ suc n) (λ rest is. omega (arith, is))
    (choices (others piece pieces) n) (choices-long n (others piece pieces))))
    (all-whichever pieces)

pub queues-long : (elements : List Element) → All (λ queue. length queue ≡ queue_len elements) (queues elements)
unfolding queues
queues-long [] = All-cons (λ queue. length queue ≡ 0) [] [] refl (All-nil (λ queue. length queue ≡ 0))
queues-long (element ∷ elements) =
    let whole : List Piece → Type 0 = λ queue. length queue ≡ queue_len (element ∷ elements) in
    all-flat whole (λ choice. length choice ≡ element.chosen) (λ choice. map (λ rest. choice ++ rest) (queues elements))
    (choices (pieces_in element.set) element.chosen)
    (λ choice long. All-map whole (λ rest. choice ++ rest) (queues elements)
    (All-weaker (λ rest. length rest ≡ queue_len elements) (λ rest. length (choice ++ rest) ≡ queue_len (element ∷ elements))
    (λ rest is. omega (arith, length-append choice rest, long, is, sum_by-cons (λ (e : Element). e.chosen) element elements))
    (queues elements) (queues-long elements)))
    (choices-long element.chosen (pieces_in element.set))
