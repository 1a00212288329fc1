-- The list of queues: how long it is, and how a queue is found piece by piece.
use Rattle.std.proofs.Common.{◌≡◌, ℕ, suc, ◌+◌, ◌-◌, ◌*◌, ◌<◌, List, [], ◌∷◌, ◌++◌, length, refl, ap, ◌∙◌, map, Some, append-nil, rules}
use Rattle.std.specs.List.{flat_map, slice_get}
use Rattle.std.specs.Option.{option_map}
use Rattle.std.proofs.Math.Path.{fun_ext}
use Rattle.std.proofs.lemmas.List.{length-map, map-append, map-id}
use Rattle.std.proofs.lemmas.Option.{slice_get-map}
use Rattle.std.proofs.lemmas.List.Concat.{flat_map-append}
use Rattle.srs.specs.declared.piece.Piece.{Piece}
use Rattle.queue_pattern.specs.declared.element.Element.{Element}
use Rattle.queue_pattern.specs.Queues.{pieces_in, others, choices, queues, tails, falling_factor, queue_count}
use Rattle.queue_pattern.proofs.UniformLemmas.{IsUniform, length-uniform, get-uniform}
use Rattle.queue_pattern.proofs.ChoiceLemmas.{IsSet, pieces_in-set, others-set, length-others, length-choices}

pub queues-tails : (element : Element) (elements : List Element) → queues (element ∷ elements) ≡ tails (pieces_in element.set) element.chosen elements
unfolding queues tails
queues-tails element elements = refl

pub queues-none : queues [] ≡ [] ∷ []
unfolding queues
queues-none = refl

pub tails-none : (pieces : List Piece) (elements : List Element) → tails pieces 0 elements ≡ queues elements
unfolding tails choices
tails-none pieces elements = append-nil (map (λ rest. rest) (queues elements)) ∙ map-id (queues elements)

-- a flat map over a flat map
flat-flat : {A B C : Type 0} (g : B → List C) (h : A → List B) (xs : List A) → flat_map g (flat_map h xs) ≡ flat_map (λ x. flat_map g (h x)) xs
flat-flat g h [] = refl
flat-flat g h (x ∷ xs) = flat_map-append g (h x) (flat_map h xs) ∙ ap (λ rest. flat_map g (h x) ++ rest) (flat-flat g h xs)

map-map : {A B C : Type 0} (f : B → C) (g : A → B) (xs : List A) → map f (map g xs) ≡ map (λ x. f (g x)) xs
map-map f g [] = refl
map-map f g (x ∷ xs) = ap (λ rest. f (g x) ∷ rest) (map-map f g xs)

-- one more piece before each choice
flat-cons : (piece : Piece) (qs cs : List (List Piece)) →
    flat_map (λ choice. map (λ rest. choice ++ rest) qs) (map (λ rest. piece ∷ rest) cs)
    ≡ map (λ rest. piece ∷ rest) (flat_map (λ choice. map (λ rest. choice ++ rest) qs) cs)
flat-cons piece qs [] = refl
flat-cons piece qs (c ∷ cs) = search (rules, map-map, map-append, (flat-cons piece qs cs))

pub tails-more : (pieces : List Piece) (n : ℕ) (elements : List Element) →
    tails pieces (suc n) elements ≡ flat_map (λ piece. map (λ rest. piece ∷ rest) (tails (others piece pieces) n elements)) pieces
unfolding tails choices
tails-more pieces n elements =
    flat-flat (λ choice. map (λ rest. choice ++ rest) (queues elements)) (λ piece. map (λ rest. piece ∷ rest) (choices (others piece pieces) n)) pieces
    ∙ ap (λ (f : Piece → List (List Piece)). flat_map f pieces) (fun_ext (λ piece. flat-cons piece (queues elements) (choices (others piece pieces) n)))

-- each queue behind a choice
abbrev pub behind : List Element → List Piece → List (List Piece)
behind elements choice = map (λ rest. choice ++ rest) (queues elements)

pub uniform-behind : (elements : List Element) (choices : List (List Piece)) → IsUniform (behind elements) choices (length (queues elements))
uniform-behind elements choices = record { each = λ choice there. length-map (queues elements) (λ rest. choice ++ rest) }

length-tails_of : (pieces : List Piece) (n : ℕ) (elements : List Element) → IsSet pieces → length (queues elements) ≡ queue_count elements
    → length (tails pieces n elements) ≡ falling_factor (length pieces) n * queue_count elements
unfolding tails
length-tails_of pieces n elements set rest =
    length-uniform (behind elements) (choices pieces n) (length (queues elements)) (uniform-behind elements (choices pieces n))
    ∙ times (length-choices n pieces set) rest
  where
    times : {a b c d : ℕ} → a ≡ b → c ≡ d → a * c ≡ b * d
    times e f = cc

pub length-queues : (elements : List Element) → length (queues elements) ≡ queue_count elements
unfolding queue_count
length-queues [] = ap length queues-none
length-queues (element ∷ elements) =
    search (rules, queues-tails, length-tails_of, pieces_in-set, length-queues elements)

pub length-tails : (pieces : List Piece) (n : ℕ) (elements : List Element) → IsSet pieces → length (tails pieces n elements) ≡ falling_factor (length pieces) n * queue_count elements
length-tails pieces n elements set = length-tails_of pieces n elements set (length-queues elements)

-- the next piece of what may follow is the one with the number of whole blocks, and the rest is found in its block
pub tails-get : (pieces : List Piece) (n : ℕ) (elements : List Element) (q r block : ℕ) (piece : Piece) → IsSet pieces
    → block ≡ falling_factor (length pieces - 1) n * queue_count elements → r < block → slice_get pieces q ≡ Some piece
    → slice_get (tails pieces (suc n) elements) (q * block + r) ≡ option_map (λ rest. piece ∷ rest) (slice_get (tails (others piece pieces) n elements) r)
tails-get pieces n elements q r block piece set is within there =
    search (rules, length-map, length-tails, others-set, length-others, tails-more, get-uniform, slice_get-map)
