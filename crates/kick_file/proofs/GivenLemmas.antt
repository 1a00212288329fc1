-- The pieces and rotations that have an entry.
use Rattle.std.proofs.Common.{◌≡◌, ℕ, ◌+◌, ◌-◌, ◌*◌, ◌<◌, true, false, eqb, eqb-true, List, [], ◌∷◌, ◌++◌, length, map, refl, arith, rules}
use Rattle.std.specs.List.{list_any, IsDistinct, AllByRecursion}
use Rattle.std.proofs.lemmas.Bool.{and_parts, or_cases, or_parts, not-true}
use Rattle.std.proofs.lemmas.Bool.Decides.{nat_tests}
use Rattle.std.proofs.lemmas.List.{length-map}
use Rattle.std.proofs.lemmas.List.Folds.{list_any-append}
use Rattle.std.proofs.lemmas.Map.Steps.{length-le_from_distinct_below}
use Rattle.srs.specs.Piece.{piece_code}
use Rattle.srs.specs.Rotation.{rotation_index}
use Rattle.kick_file.specs.declared.turned.TurnedPiece.{TurnedPiece}
use Rattle.kick_file.specs.Form.{is_same, is_repeated, are_distinct}
use Rattle.srs.proofs.CallerLemmas.{piece_code-some, piece_code-small, rotation_index-small}

-- the number of a piece in a rotation, from 0 to 27
number_of : TurnedPiece → ℕ
number_of turned = 4 * (piece_code turned.piece - 1) + rotation_index turned.rotation

number_of-within : (turned : TurnedPiece) → number_of turned < 28
unfolding number_of
number_of-within turned = search (rules, piece_code-some, piece_code-small, rotation_index-small)

is_same-number : (one other : TurnedPiece) → is_same one other ≡ eqb (number_of one) (number_of other)
unfolding number_of
is_same-number one other = search (rules, nat_tests, piece_code-some, rotation_index-small)

pub is_same-symmetric : (one other : TurnedPiece) → is_same one other ≡ is_same other one
is_same-symmetric one other = search (rules, is_same-number, number_of, nat_tests)

apart : (turned : TurnedPiece) (given : List TurnedPiece) → is_repeated given turned ≡ false
    → AllByRecursion (λ n. eqb (number_of turned) n ≡ false) (map number_of given)
apart turned [] none = tt
apart turned (other ∷ given) none = search (rules, or_parts, is_same-number, (apart turned given))

numbers_distinct : (given : List TurnedPiece) → are_distinct given ≡ true → IsDistinct eqb (map number_of given)
unfolding IsDistinct
numbers_distinct [] distinct = tt
numbers_distinct (turned ∷ given) distinct = search (rules, and_parts, apart, not-true, (numbers_distinct given))

below : (given : List TurnedPiece) (n : ℕ) → list_any (eqb n) (map number_of given) ≡ true → n < 28
below [] n has = cc
below (turned ∷ given) n has = search (rules, or_cases, eqb-true, number_of-within, (below given n))

-- there are 28 at most
pub room : (given : List TurnedPiece) (turned : TurnedPiece) → are_distinct given ≡ true → is_repeated given turned ≡ false → length given < 28
room given turned distinct none =
    let all : are_distinct (turned ∷ given) ≡ true = rw (none, distinct) refl in
    let most = length-le_from_distinct_below (map number_of (turned ∷ given)) 28 (numbers_distinct (turned ∷ given) all) (below (turned ∷ given)) in
    let same = length-map given number_of in
    omega (arith, most, same)

-- one more that is not among them
pub distinct_more : (given : List TurnedPiece) (turned : TurnedPiece) → are_distinct given ≡ true → is_repeated given turned ≡ false
    → are_distinct (given ++ turned ∷ []) ≡ true
distinct_more [] turned distinct none = refl
distinct_more (other ∷ given) turned distinct none =
    search (rules, and_parts, or_parts, list_any-append, not-true, is_same-symmetric, (distinct_more given turned))
