-- How many ordered choices there are.
use Rattle.std.proofs.Common.{◌≡◌, ℕ, zero, suc, ◌+◌, ◌-◌, ◌<◌, ◌≤◌, Bool, true, not, cond, ◌==◌, List, [], ◌∷◌, length, refl, ap, ◌∙◌, arith, Contains, map, filter, count_by, get_or, rules}
use Rattle.std.proofs.lemmas.Bool.{cases_Bool}
use Rattle.std.proofs.lemmas.List.{length-map}
use Rattle.std.proofs.lemmas.List.Sums.{sum_by-cons, length-filter}
use Rattle.std.proofs.lemmas.Grind.{common_steps}
use Rattle.srs.specs.declared.piece.Piece.{Piece}
use Rattle.srs.specs.Piece.{all_pieces, piece_code}
use Rattle.queue_pattern.specs.Queues.{pieces_in, others, choices, falling_factor}
use Rattle.queue_pattern.proofs.UniformLemmas.{length-uniform}

abbrev pub is : Piece → Piece → Bool
is piece p = piece_code p == piece_code piece

-- no piece stands twice
pub record IsSet (pieces : List Piece) : Type 0 where
  pub once : (piece : Piece) → count_by (is piece) pieces ≤ 1

-- what an element adds to a count
abbrev pub one_if : Bool → ℕ
one_if b = cond b 1 0

count-cons : {X : Type 0} (p : X → Bool) (x : X) (xs : List X) → count_by p (x ∷ xs) ≡ cond (p x) 1 0 + count_by p xs
count-cons p x xs = sum_by-cons (λ y. cond (p y) 1 0) x xs

-- a filter leaves no more of what a test counts
count-filter : {X : Type 0} (test p : X → Bool) (xs : List X) → count_by p (filter test xs) ≤ count_by p xs
count-filter test p [] = omega arith
count-filter test p (x ∷ xs) = search (rules, cases_Bool, count-cons, count-filter test p xs, count-filter test p xs)

one_of_two : (b : Bool) → one_if (not b) + one_if b ≡ 1
one_of_two b = search rules

-- what passes and what fails is all
count-two : {X : Type 0} (p : X → Bool) (xs : List X) → count_by (λ x. not (p x)) xs + count_by p xs ≡ length xs
count-two p [] = refl
count-two p (x ∷ xs) = omega (arith, count-cons p x xs, count-cons (λ y. not (p y)) x xs, one_of_two (p x), count-two p xs)

count-both : {X : Type 0} (p : X → Bool) (xs : List X) → length (filter (λ x. not (p x)) xs) + count_by p xs ≡ length xs
count-both p xs = omega (arith, length-filter (λ x. not (p x)) xs, count-two p xs)

-- an element that passes is counted
count-member : {X : Type 0} (p : X → Bool) (xs : List X) (k : ℕ) (d : X) → k < length xs → p (get_or xs k d) ≡ true → 1 ≤ count_by p xs
count-member p xs k d within passes = grind (arith, common_steps, count-cons)

once_in_all : (piece : Piece) → count_by (is piece) all_pieces ≡ 1
once_in_all piece = search rules

is_itself : (piece : Piece) → is piece piece ≡ true
is_itself piece = search rules

pub filter-set : (test : Piece → Bool) (pieces : List Piece) → IsSet pieces → IsSet (filter test pieces)
filter-set test pieces set = record { once = λ q. omega (arith, count-filter test (is q) pieces, set.once q) }

pub pieces_in-set : (set : ℕ) → IsSet (pieces_in set)
unfolding pieces_in
pieces_in-set set = search (rules, count-filter, once_in_all)

pub others-set : (piece : Piece) (pieces : List Piece) → IsSet pieces → IsSet (others piece pieces)
unfolding others
others-set piece pieces set = record { once = λ q. omega (arith, count-filter (λ p. not (is piece p)) (is q) pieces, set.once q) }

pub length-others : (piece : Piece) (pieces : List Piece) → IsSet pieces → Contains pieces piece → length (others piece pieces) + 1 ≡ length pieces
unfolding others
length-others piece pieces set (k, within, there) =
    let found : is piece (get_or pieces k piece) ≡ true = ap (is piece) there ∙ is_itself piece in
    omega (arith, count-both (is piece) pieces, set.once piece, count-member (is piece) pieces k piece within found)

pub length-choices : (n : ℕ) (pieces : List Piece) → IsSet pieces → length (choices pieces n) ≡ falling_factor (length pieces) n
unfolding choices falling_factor
length-choices zero pieces set = refl
length-choices (suc n) pieces set =
    length-uniform (λ piece. map (λ rest. piece ∷ rest) (choices (others piece pieces) n)) pieces (falling_factor (length pieces - 1) n) (record {
      each = λ piece there.
          length-map (choices (others piece pieces) n) (λ rest. piece ∷ rest) ∙ length-choices n (others piece pieces) (others-set piece pieces set)
          ∙ ap (λ m. falling_factor m n) (omega (arith, length-others piece pieces set there));
    })
