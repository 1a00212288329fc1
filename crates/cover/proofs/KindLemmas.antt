-- Lists of kinds that are the same, and a list that is kept.
use Rattle.std.proofs.lemmas.Grind.{common_steps}
use Rattle.std.proofs.Common.{◌≡◌, ◌⊎◌, Bool, true, ◌||◌, ◌==◌, List, [], ◌∷◌, ◌++◌, Contains, map, refl, ap, ◌∙◌, rules, arith}
use Rattle.std.specs.List.{list_any}
use Rattle.std.proofs.lemmas.Bool.{and_parts, and_from, both_ways, eqb-true, eq-eqb, or_left, or_right, or_cases}
use Rattle.std.proofs.lemmas.List.Folds.{list_any-append}
use Rattle.std.specs.Cmp.Lexicographic.{pointwise, pointwise_decides}
use Rattle.std.proofs.lemmas.List.{map-append}
use Rattle.std.proofs.Math.Bool.{or-false}
use Rattle.arrayvec.specs.ArrayVec.{ArrayVec}
use Rattle.indexmap.specs.IndexSet.{insert_key}
use Rattle.indexmap.proofs.CallerLemmas.{Contains-list_any}
use Rattle.lane_board.proofs.CallerLemmas.{same_from_both}
use Rattle.srs.specs.declared.piece.Piece.{Piece}
use Rattle.srs.specs.Piece.{piece_code}
use Rattle.srs.proofs.CallerLemmas.{piece_code-injective, Contains-cases, Contains-none}
use Rattle.srs.specs.contracts.piece.PiecePartialEq.TheImpl.{eq-value}
use Rattle.cover.specs.Lists.{has_kinds, listed_kinds, same_kinds}
use Rattle.cover.proofs.PieceEqual.{equal-decides}
use Rattle.cover.specs.Covered.{Keeps}

pub same_kinds-true : (kinds others : List Piece) → same_kinds kinds others ≡ true → kinds ≡ others
unfolding same_kinds
same_kinds-true [] [] same = refl
same_kinds-true [] (other ∷ others) same = cc
same_kinds-true (kind ∷ kinds) [] same = cc
same_kinds-true (kind ∷ kinds) (other ∷ others) same =
    search (rules, (piece_code-injective kind other), (eqb-true (piece_code kind) (piece_code other)), (and_parts (piece_code kind == piece_code other)), (same_kinds-true kinds others))

pub same_kinds-itself : (kinds : List Piece) → same_kinds kinds kinds ≡ true
unfolding same_kinds
same_kinds-itself [] = refl
same_kinds-itself (kind ∷ kinds) = and_from _ _ (eq-eqb (piece_code kind) (piece_code kind) refl) (same_kinds-itself kinds)

pub has_kinds-contained : (lists : List (List Piece)) (kinds : List Piece) → has_kinds lists kinds ≡ true → Contains lists kinds
unfolding has_kinds
has_kinds-contained lists kinds has = Contains-list_any same_kinds same_kinds-true lists kinds has

pub has_kinds-from : (lists : List (List Piece)) (kinds : List Piece) → Contains lists kinds → has_kinds lists kinds ≡ true
unfolding has_kinds
has_kinds-from lists kinds among =
    grind (arith, common_steps, Contains-none, Contains-cases, or_left, same_kinds-itself, or_right)

pub has_kinds-pushed : (lists : List (List Piece)) (last kinds : List Piece) → has_kinds (lists ++ last ∷ []) kinds ≡ (has_kinds lists kinds || same_kinds kinds last)
unfolding has_kinds
has_kinds-pushed lists last kinds = list_any-append (same_kinds kinds) lists (last ∷ []) ∙ ap (λ b. list_any (same_kinds kinds) lists || b) (or-false (same_kinds kinds last))

-- equal vectors of pieces are those with the same kinds
abbrev pub equal_kinds : ArrayVec Piece → ArrayVec Piece → Bool
equal_kinds kinds others = pointwise eq-value.it kinds.items others.items

equal-is_same : (kinds others : List Piece) → pointwise eq-value.it kinds others ≡ same_kinds kinds others
equal-is_same kinds others =
    search (rules, pointwise_decides, equal-decides, same_from_both, same_kinds-itself, same_kinds-true)

any-has : (keys : List (ArrayVec Piece)) (kinds : ArrayVec Piece) → list_any (equal_kinds kinds) keys ≡ has_kinds (map listed_kinds keys) kinds.items
unfolding has_kinds
any-has [] kinds = refl
any-has (key ∷ keys) kinds = search (rules, equal-is_same, any-has keys kinds)

pub keys-kept : (keys : List (ArrayVec Piece)) (kinds : ArrayVec Piece) → Keeps (map listed_kinds keys) (map listed_kinds (insert_key equal_kinds keys kinds)) kinds.items
keys-kept keys kinds = search (rules, has_kinds-contained, any-has, both_ways, has_kinds-from, map-append)

pub has-old : (old new : List (List Piece)) (kinds other : List Piece) → Keeps old new kinds → has_kinds old other ≡ true → has_kinds new other ≡ true
has-old old new kinds other h4 has = search (rules, has_kinds-pushed, or_left)

pub has-item : (old new : List (List Piece)) (kinds : List Piece) → Keeps old new kinds → has_kinds new kinds ≡ true
has-item old new kinds h3 = search (rules, has_kinds-from, has_kinds-pushed, or_right, same_kinds-itself)

pub has-only : (old new : List (List Piece)) (kinds other : List Piece) → Keeps old new kinds → has_kinds new other ≡ true → (has_kinds old other ≡ true) ⊎ (other ≡ kinds)
has-only old new kinds other h4 has = search (rules, or_cases, has_kinds-pushed, same_kinds-true)
