-- Elements that stand for one queue alone are the pieces of this queue.
use Rattle.std.proofs.Common.{◌≡◌, ℕ, ◌*◌, ◌<◌, ◌≤◌, ◌==◌, Bool, true, List, [], ◌∷◌, length, map, refl, ap, sym, ◌∙◌, arith, append-nil, eqb-true, rules}
use Rattle.std.specs.List.{list_all}
use Rattle.std.proofs.Math.Nat.{dvd-mul_left, dvd-mul_right, eq-one_of_dvd-one}
use Rattle.std.proofs.lemmas.Bool.{agree_below_at, and_parts}
use Rattle.srs.specs.declared.piece.Piece.{Piece}
use Rattle.queue_pattern.specs.declared.element.Element.{Element}
use Rattle.queue_pattern.specs.Grammar.{set_of, single, singles}
use Rattle.queue_pattern.specs.Queues.{pieces_in, choices, queues, falling_factor, queue_count}
use Rattle.queue_pattern.specs.Sound.{is_sound}
use Rattle.queue_pattern.proofs.BuilderLemmas.{sound-within, sound-set}
use Rattle.queue_pattern.proofs.LimitLemmas.{sound-some}
use Rattle.queue_pattern.proofs.QueueLemmas.{length-queues, queues-none}

-- both factors of a product that is one are one
left_one : (a b : ℕ) → a * b ≡ 1 → a ≡ 1
left_one a b is = eq-one_of_dvd-one (rw is at (dvd-mul_right a b))

right_one : (a b : ℕ) → a * b ≡ 1 → b ≡ 1
right_one a b is = eq-one_of_dvd-one (rw is at (dvd-mul_left b a))

-- some pieces can be chosen of a set in one way alone only where it has one piece
one_piece : (m n : ℕ) → 0 < n → n ≤ m → falling_factor m n ≡ 1 → (m ≡ 1) × (n ≡ 1)
unfolding falling_factor
one_piece m n some within is = search (rules, left_one)

-- where a set of the seven has one piece it is the set of this piece
abbrev is_its_set : List Piece → ℕ → Bool
is_its_set (piece ∷ []) set = set == set_of piece
is_its_set pieces set = true

its_set : (set : ℕ) → set < 128 → is_its_set (pieces_in set) set ≡ true
unfolding pieces_in
its_set set within = agree_below_at (λ s. is_its_set (pieces_in s) s) (λ _. true) 128 set refl within

the_piece : (pieces : List Piece) (set : ℕ) → is_its_set pieces set ≡ true → length pieces ≡ 1 → (piece : Piece) × (pieces ≡ piece ∷ []) × (set ≡ set_of piece)
the_piece pieces set its one = search (rules, eqb-true)

the_only : {A : Type 0} (xs : List A) → length xs ≡ 1 → (x : A) × (xs ≡ x ∷ [])
the_only [] one = absurd (omega (arith, one))
the_only (x ∷ []) one = (x, refl)
the_only (x ∷ y ∷ rest) one = absurd (omega (arith, one))

-- with one piece for the first element, its queues are those of the rest behind this piece
queues-single : (piece : Piece) (elements : List Element) (set chosen : ℕ) → pieces_in set ≡ piece ∷ [] → chosen ≡ 1
    → queues (record { set = set; chosen = chosen } ∷ elements) ≡ map (λ rest. piece ∷ rest) (queues elements)
unfolding queues choices
queues-single piece elements set chosen alone once = search (rules, append-nil)

-- what one list is that stands alone
same_only : {A : Type 0} (x y : A) → x ∷ [] ≡ y ∷ [] → x ≡ y
same_only x y is = cc

-- an element in front of others, where all of them stand for one queue
record IsFirst (element : Element) (elements : List Element) (queue : List Piece) : Type 0 where
  piece : Piece
  rest : List Piece
  element_is : element ≡ single piece
  rest_is : queues elements ≡ rest ∷ []
  queue_is : queue ≡ piece ∷ rest

first_of_one : (element : Element) (elements : List Element) (queue : List Piece) → is_sound element ≡ true → queues (element ∷ elements) ≡ queue ∷ [] → IsFirst element elements queue
unfolding queue_count
first_of_one element elements queue sound is =
    let counted : falling_factor (length (pieces_in element.set)) element.chosen * queue_count elements ≡ 1 = sym (length-queues (element ∷ elements)) ∙ ap length is in
    let one = one_piece (length (pieces_in element.set)) element.chosen (sound-some element sound) (sound-within element sound) (left_one _ _ counted) in
    let its = the_piece (pieces_in element.set) element.set (its_set element.set (sound-set element sound)) one.0 in
    let rest = the_only (queues elements) (length-queues elements ∙ right_one _ _ counted) in
    record {
      piece = its.0;
      rest = rest.0;
      element_is = λ i. record { set = its.2 i; chosen = one.1 i };
      rest_is = rest.1;
      queue_is = same_only queue (its.0 ∷ rest.0) (sym is ∙ queues-single its.0 elements element.set element.chosen its.1 one.1 ∙ ap (λ qs. map (λ rest. its.0 ∷ rest) qs) rest.1);
    }

-- sound elements that stand for one queue alone are its pieces, each alone
pub one_queue-singles : (elements : List Element) (queue : List Piece) → list_all is_sound elements ≡ true → queues elements ≡ queue ∷ [] → elements ≡ singles queue
one_queue-singles [] queue sound is = ap singles (same_only [] queue (sym queues-none ∙ is))
one_queue-singles (element ∷ elements) queue sound is =
    let parts = and_parts (is_sound element) (list_all is_sound elements) sound in
    let first = first_of_one element elements queue parts.0 is in
    (λ i. first.element_is i ∷ one_queue-singles elements first.rest parts.1 first.rest_is i) ∙ ap singles (sym first.queue_is)
