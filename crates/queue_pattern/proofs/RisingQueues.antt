-- The list of queues rises, so no two of them are equal.
use Rattle.std.proofs.Common.{◌≡◌, ◌≢◌, ℕ, zero, suc, ◌<◌, not, ◌==◌, List, [], ◌∷◌, ◌++◌, length, map, slice_get, Some, sym, subst, ◌∙◌, arith, rules}
use Rattle.std.specs.List.Sorted.{IsStrictlySortedBy}
use Rattle.std.specs.Ordering.{ordering_then}
use Rattle.std.specs.declared.cmp.Ordering.{Ordering}
use Rattle.std.specs.declared.cmp.Ordering.TheVariants.{Less, Equal}
use Rattle.std.proofs.lemmas.List.Kept.{IsStrictlySortedBy-filter}
use Rattle.std.proofs.lemmas.Option.{get_or_from_slice_get, slice_get_within}
use Rattle.srs.specs.declared.piece.Piece.{Piece}
use Rattle.srs.specs.Piece.{piece_code}
use Rattle.srs.proofs.CallerLemmas.{Contains-none, Contains-from_map, rising-first, rising-rest, rising-none, rising-cons, rising-flat_map, rising-map, first_less}
use Rattle.queue_pattern.specs.declared.element.Element.{Element}
use Rattle.queue_pattern.specs.Queues.{pieces_in, others, choices, queues}
use Rattle.queue_pattern.specs.Order.{piece_cmp, queue_cmp}

-- the order of lists of equal length, by their first difference
unfoldable differ_cmp : List Piece → List Piece → Ordering
differ_cmp [] ys = Equal
differ_cmp (x ∷ xs) [] = Equal
differ_cmp (x ∷ xs) (y ∷ ys) = ordering_then (piece_cmp x y) (differ_cmp xs ys)

same_first : (p : Piece) (r : Ordering) → ordering_then (piece_cmp p p) r ≡ r
same_first p r = search rules

differ-more : (p : Piece) (xs ys : List Piece) → differ_cmp xs ys ≡ Less → differ_cmp (p ∷ xs) (p ∷ ys) ≡ Less
unfolding differ_cmp
differ-more p xs ys less = same_first p (differ_cmp xs ys) ∙ less

differ-first : (p q : Piece) (xs ys : List Piece) → piece_cmp p q ≡ Less → differ_cmp (p ∷ xs) (q ∷ ys) ≡ Less
unfolding differ_cmp
differ-first p q xs ys less = first_less (piece_cmp p q) (differ_cmp xs ys) less

-- what follows decides nothing after a difference
differ-queues : (xs ys rest rest' : List Piece) → differ_cmp xs ys ≡ Less → queue_cmp (xs ++ rest) (ys ++ rest') ≡ Less
unfolding differ_cmp
differ-queues [] ys rest rest' less = cc
differ-queues (x ∷ xs) [] rest rest' less = cc
differ-queues (x ∷ xs) (y ∷ ys) rest rest' less = search (rules, (differ-queues xs ys rest rest'))

-- a list that begins alike
alike-queues : (front xs ys : List Piece) → queue_cmp xs ys ≡ Less → queue_cmp (front ++ xs) (front ++ ys) ≡ Less
alike-queues [] xs ys less = less
alike-queues (p ∷ front) xs ys less = same_first p (queue_cmp (front ++ xs) (front ++ ys)) ∙ alike-queues front xs ys less

pieces_in-rise : (set : ℕ) → IsStrictlySortedBy piece_cmp (pieces_in set)
unfolding pieces_in IsStrictlySortedBy
pieces_in-rise set = search (rules, IsStrictlySortedBy-filter)

choices-rise : (n : ℕ) (pieces : List Piece) → IsStrictlySortedBy piece_cmp pieces → IsStrictlySortedBy differ_cmp (choices pieces n)
unfolding choices others
choices-rise zero pieces rise = rising-cons differ_cmp [] [] (λ y there. absurd (Contains-none y there)) (rising-none differ_cmp)
choices-rise (suc n) pieces rise =
    rising-flat_map piece_cmp differ_cmp (λ p. map (λ rest. p ∷ rest) (choices (others p pieces) n)) pieces rise
    (λ p. rising-map differ_cmp differ_cmp (λ rest. p ∷ rest) (choices (others p pieces) n)
    (choices-rise n (others p pieces) (IsStrictlySortedBy-filter piece_cmp (λ q. not (piece_code q == piece_code p)) pieces rise)) (differ-more p))
    (λ p q less x y first second.
    let one = Contains-from_map (λ rest. p ∷ rest) (choices (others p pieces) n) x first in
    let two = Contains-from_map (λ rest. q ∷ rest) (choices (others q pieces) n) y second in
    subst (λ b. differ_cmp x b ≡ Less) two.2 (subst (λ a. differ_cmp a (q ∷ two.0) ≡ Less) one.2 (differ-first p q one.0 two.0 less)))

pub queues-rise : (elements : List Element) → IsStrictlySortedBy queue_cmp (queues elements)
unfolding queues
queues-rise [] = rising-cons queue_cmp [] [] (λ y there. absurd (Contains-none y there)) (rising-none queue_cmp)
queues-rise (e ∷ elements) =
    rising-flat_map differ_cmp queue_cmp (λ choice. map (λ rest. choice ++ rest) (queues elements)) (choices (pieces_in e.set) e.chosen)
    (choices-rise e.chosen (pieces_in e.set) (pieces_in-rise e.set))
    (λ choice. rising-map queue_cmp queue_cmp (λ rest. choice ++ rest) (queues elements) (queues-rise elements) (alike-queues choice))
    (λ c d less x y first second.
    let one = Contains-from_map (λ rest. c ++ rest) (queues elements) x first in
    let two = Contains-from_map (λ rest. d ++ rest) (queues elements) y second in
    subst (λ b. queue_cmp x b ≡ Less) two.2 (subst (λ a. queue_cmp a (d ++ two.0) ≡ Less) one.2 (differ-queues c d one.0 two.0 less)))

itself : (queue : List Piece) → queue_cmp queue queue ≡ Less → ⊥
itself [] less = search rules
itself (p ∷ queue) less = itself queue (sym (same_first p (queue_cmp queue queue)) ∙ less)

distinct : (qs : List (List Piece)) → IsStrictlySortedBy queue_cmp qs → (i j : ℕ) → i < j → j < length qs → slice_get qs i ≢ slice_get qs j
distinct [] rise i j before within same = absurd (omega arith)
distinct (q ∷ qs) rise zero zero before within same = absurd (omega arith)
distinct (q ∷ qs) rise zero (suc j) before within same =
    let there : slice_get qs j ≡ Some q = sym same in
    itself q (rising-first queue_cmp q qs rise q (j, slice_get_within qs j q there, get_or_from_slice_get qs j q q there))
distinct (q ∷ qs) rise (suc i) zero before within same = absurd (omega arith)
distinct (q ∷ qs) rise (suc i) (suc j) before within same = distinct qs (rising-rest queue_cmp q qs rise) i j (omega arith) (omega arith) same

pub queues-distinct : (elements : List Element) (i j : ℕ) → i < j → j < length (queues elements) → slice_get (queues elements) i ≢ slice_get (queues elements) j
queues-distinct elements = distinct (queues elements) (queues-rise elements)
