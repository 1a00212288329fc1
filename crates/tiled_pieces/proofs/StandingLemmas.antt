-- Pieces that stand in the tilings of lists.
use Rattle.std.proofs.Common.{◌≡◌, ◌↔◌, ◌⊎◌, ℕ, ◌+◌, ◌-◌, ◌*◌, ◌%◌, ◌^◌, ◌<◌, ◌≤◌, Bool, true, false, ◌||◌, bit_or, List, [], ◌∷◌, ◌++◌, length, get_or, take, refl, sym, ap, subst, ◌∙◌, inl, inr, arith, rules}
use Rattle.std.specs.List.{Contains}
use Rattle.std.proofs.Math.Bool.{or-true, true-or}
use Rattle.std.proofs.lemmas.Bool.{cases_eq, cases_lt, false≢true, or_cases}
use Rattle.std.proofs.lemmas.List.{take_all, take_more}
use Rattle.std.proofs.lemmas.List.Elements.{Contains-append_left, Contains-push, Contains-push_cases}
use Rattle.srs.specs.declared.piece.Piece.{Piece}
use Rattle.lane_board.specs.Field.{Field}
use Rattle.lane_board.specs.Lanes.{has_bit}
use Rattle.lane_board.proofs.CallerLemmas.{has_bit-low, has_bit-or, has_bit-past, has_bit-shifted_high, has_bit-shifted_low, has_bit-zero}
use Rattle.empty_cells.specs.Empties.{empty_cells}
use Rattle.tiled_pieces.specs.declared.standing.StandingPiece.{StandingPiece}
use Rattle.tiled_pieces.specs.declared.listed.ListedTiling.{ListedTiling}
use Rattle.tiled_pieces.specs.Standing.{GrowsBy, Stands}
use Rattle.tiled_pieces.specs.TilingLists.{HasPiece, LaidPiece, SomeHas, laid_at}
use Rattle.tiled_pieces.proofs.ListedLemmas.{one_further}

taken_more : (pieces : List StandingPiece) (index : ℕ) (piece : StandingPiece) → index < length pieces → piece ≡ get_or pieces index piece → take (index + 1) pieces ≡ take index pieces ++ piece ∷ []
taken_more pieces index piece below at = take_more pieces index piece below ∙ ap (λ p. take index pieces ++ p ∷ []) (sym at)

pub none_stands : (cells : Field) (number : ℕ) → Stands [] cells number → ⊥
none_stands cells number stands = let (k, below, _) = stands.there in absurd (omega arith)

-- where a piece is added, it stands or one before it does
pub stands_pushed : (pieces : List StandingPiece) (piece : StandingPiece) (cells : Field) (number : ℕ) →
    Stands (pieces ++ piece ∷ []) cells number ↔ (Stands pieces cells number ⊎ ((piece.list ≡ number) × (empty_cells piece.cells ≡ cells)))
stands_pushed pieces piece cells number = (
  λ stands. elim (Contains-push_cases pieces piece stands.piece stands.there) [
    | inl before ↦ inl (record { piece = stands.piece; there = before; same = stands.same; list = stands.list })
    | inr here ↦ inr (ap (λ (p : StandingPiece). p.list) here ∙ stands.list, ap (λ (p : StandingPiece). empty_cells p.cells) here ∙ stands.same)
  ],
  λ either. elim either as (λ _. Stands (pieces ++ piece ∷ []) cells number) [
    | inl before ↦ record { piece = before.piece; there = Contains-append_left pieces (piece ∷ []) before.piece before.there; same = before.same; list = before.list }
    | inr here ↦ record { piece = piece; there = Contains-push pieces piece; same = here.1; list = here.0 }
  ],
)

-- the bits of lists that have one of the first pieces
pub record AreLists (pieces : List StandingPiece) (cells : Field) (lists index : ℕ) : Type 0 where
  pub both : (number : ℕ) → number < 64 → (has_bit lists number ≡ true) ↔ Stands (take index pieces) cells number

pub lists_first : (pieces : List StandingPiece) (cells : Field) → AreLists pieces cells 0 0
lists_first pieces cells = record { both = λ number small. (λ set. absurd (false≢true (sym (has_bit-zero number) ∙ set)), λ stands. absurd (none_stands cells number stands)) }

-- the bit of one number alone is set
one_bit : (a k : ℕ) → k < 64 → (has_bit (1 * 2 ^ a % 2 ^ 64) k ≡ true) ↔ (a ≡ k)
unfolding has_bit
one_bit a k small = (
  λ set. elim (cases_lt k a) [
    | inl below ↦ absurd (false≢true (sym (has_bit-shifted_low 1 a k below) ∙ sym (has_bit-low (1 * 2 ^ a) 64 k small) ∙ set))
    | inr from ↦ elim (cases_eq k a) [
      | inl same ↦ sym same
      | inr other ↦ absurd (false≢true (sym (has_bit-past 1 1 (k - a) (omega arith) (omega (arith, other))) ∙ sym (has_bit-shifted_high 1 a k from) ∙ sym (has_bit-low (1 * 2 ^ a) 64 k small) ∙ set))
    ]
  ],
  λ same. has_bit-low (1 * 2 ^ a) 64 k small ∙ has_bit-shifted_high 1 a k (omega arith) ∙ ap (has_bit 1) {x = k - a} {y = 0} (omega arith) ∙ refl,
)

-- one piece more
pub lists_more : (pieces : List StandingPiece) (cells : Field) (lists index : ℕ) (piece : StandingPiece) (same : Bool) → index < length pieces → piece ≡ get_or pieces index piece → ((same ≡ true) ↔ (empty_cells piece.cells ≡ cells)) → same ≡ true →
    AreLists pieces cells lists index → AreLists pieces cells (bit_or lists (1 * 2 ^ piece.list % 2 ^ 64)) (index + 1)
lists_more pieces cells lists index piece same below at both equal before = record {
  both = λ number small.
      let one = one_bit piece.list number small in
      let added = stands_pushed (take index pieces) piece cells number in
      let longer = taken_more pieces index piece below at in (
        λ set. subst (λ ps. Stands ps cells number) (sym longer) (added.1 (elim (or_cases (has_bit lists number) (has_bit (1 * 2 ^ piece.list % 2 ^ 64) number) (sym (has_bit-or lists (1 * 2 ^ piece.list % 2 ^ 64) number) ∙ set)) [
          | inl earlier ↦ inl ((before.both number small).0 earlier)
          | inr own ↦ inr (one.0 own, both.0 equal)
        ])),
        λ stands. has_bit-or lists (1 * 2 ^ piece.list % 2 ^ 64) number ∙ elim (added.0 (subst (λ ps. Stands ps cells number) longer stands)) [
          | inl earlier ↦ ap (λ b. b || has_bit (1 * 2 ^ piece.list % 2 ^ 64) number) ((before.both number small).1 earlier) ∙ true-or (has_bit (1 * 2 ^ piece.list % 2 ^ 64) number)
          | inr own ↦ ap (λ b. has_bit lists number || b) (one.1 own.0) ∙ or-true (has_bit lists number)
        ],
      );
}

-- or a piece with other cells
pub lists_pass : (pieces : List StandingPiece) (cells : Field) (lists index : ℕ) (piece : StandingPiece) (same : Bool) → index < length pieces → piece ≡ get_or pieces index piece → ((same ≡ true) ↔ (empty_cells piece.cells ≡ cells)) → same ≡ false →
    AreLists pieces cells lists index → AreLists pieces cells lists (index + 1)
lists_pass pieces cells lists index piece same below at both differ before = record {
  both = λ number small.
      let added = stands_pushed (take index pieces) piece cells number in
      let longer = taken_more pieces index piece below at in (
        λ set. subst (λ ps. Stands ps cells number) (sym longer) (added.1 (inl ((before.both number small).0 set))),
        λ stands. elim (added.0 (subst (λ ps. Stands ps cells number) longer stands)) [
          | inl earlier ↦ (before.both number small).1 earlier
          | inr own ↦ absurd (false≢true (sym differ ∙ both.1 own.1))
        ],
      );
}

pub lists_all : (pieces all : List StandingPiece) (cells : Field) (lists index : ℕ) → length pieces ≤ index → pieces ≡ all → AreLists pieces cells lists index →
    (number : ℕ) → number < 64 → (has_bit lists number ≡ true) ↔ Stands all cells number
lists_all pieces all cells lists index last same found number small = search (rules, take_all)

-- ---- pieces that are added

pub grows_by_push : (pieces more : List StandingPiece) (number : ℕ) (piece : StandingPiece) → piece.list ≡ number → more ≡ pieces ++ piece ∷ [] → GrowsBy pieces more number (λ cells. cells ≡ empty_cells piece.cells)
grows_by_push pieces more number piece own is = record {
  both = λ cells other. (
    λ stands. elim ((stands_pushed pieces piece cells other).0 (subst (λ ps. Stands ps cells other) is stands)) [
      | inl before ↦ inl before
      | inr here ↦ inr (sym here.0 ∙ own, sym here.1)
    ],
    λ either. subst (λ ps. Stands ps cells other) (sym is) ((stands_pushed pieces piece cells other).1 (elim either as (λ _. Stands pieces cells other ⊎ ((piece.list ≡ other) × (empty_cells piece.cells ≡ cells))) [
      | inl before ↦ inl before
      | inr such ↦ inr (own ∙ sym such.0, sym such.1)
    ])),
  );
}

-- one after the other
pub grows_on : (pieces more most : List StandingPiece) (number : ℕ) (One Other Either : Field → Type 0) → GrowsBy pieces more number One → GrowsBy more most number Other → ((cells : Field) → Either cells ↔ (One cells ⊎ Other cells)) →
    GrowsBy pieces most number Either
grows_on pieces more most number One Other Either first second split = search rules

-- the same pieces in other words
pub grows_same : (pieces more : List StandingPiece) (number : ℕ) (Such Same : Field → Type 0) → GrowsBy pieces more number Such → ((cells : Field) → Same cells ↔ Such cells) → GrowsBy pieces more number Same
grows_same pieces more number Such Same grows both = search rules

-- ---- the indexes of a tiling, and the tilings of a list

-- one of the first slots has the piece
pub record HasBefore (tiling : ListedTiling) (laid : LaidPiece) (end : ℕ) : Type 0 where
  pub index : ℕ
  pub below : index < end
  pub there : laid_at tiling index ≡ laid

pub before_more : (tiling : ListedTiling) (laid : LaidPiece) (index : ℕ) → HasBefore tiling laid (index + 1) ↔ (HasBefore tiling laid index ⊎ (laid_at tiling index ≡ laid))
before_more tiling laid index = search (rules, cases_eq)

-- the index has a piece of the kind
pub before_here : (tiling : ListedTiling) (piece : Piece) (index : ℕ) (known : Field) → laid_at tiling index ≡ record { piece = piece; cells = known } → (cells : Field) →
    HasBefore tiling (record { piece = piece; cells = cells }) (index + 1) ↔ (HasBefore tiling (record { piece = piece; cells = cells }) index ⊎ (cells ≡ known))
before_here tiling piece index known at cells = search (rules, before_more)

-- or one of another kind
pub before_other : (tiling : ListedTiling) (piece : Piece) (index : ℕ) → ((laid_at tiling index).piece ≡ piece → ⊥) → (cells : Field) →
    HasBefore tiling (record { piece = piece; cells = cells }) (index + 1) ↔ HasBefore tiling (record { piece = piece; cells = cells }) index
before_other tiling piece index other cells = search (rules, before_more)

pub some_more : (list : List ListedTiling) (index : ℕ) (tiling : ListedTiling) (laid : LaidPiece) → index < length list → tiling ≡ get_or list index tiling →
    SomeHas (take (index + 1) list) laid ↔ (SomeHas (take index list) laid ⊎ HasPiece tiling laid)
some_more list index tiling laid below at = (
  λ some. elim (Contains-push_cases (take index list) tiling some.tiling (subst (λ l. Contains l some.tiling) longer some.listed)) [
    | inl there ↦ inl (record { tiling = some.tiling; listed = there; has = some.has })
    | inr here ↦ inr (subst (λ t. HasPiece t laid) (sym here) some.has)
  ],
  λ either. elim either as (λ _. SomeHas (take (index + 1) list) laid) [
    | inl some ↦ record { tiling = some.tiling; listed = subst (λ l. Contains l some.tiling) (sym longer) (Contains-append_left (take index list) (tiling ∷ []) some.tiling some.listed); has = some.has }
    | inr has ↦ record { tiling = tiling; listed = subst (λ l. Contains l tiling) (sym longer) (Contains-push (take index list) tiling); has = has }
  ],
)
  where
    longer : take (index + 1) list ≡ take index list ++ tiling ∷ []
    longer = one_further list index tiling below at

pub some_all : (list : List ListedTiling) (index : ℕ) (laid : LaidPiece) → length list ≤ index → SomeHas list laid ↔ SomeHas (take index list) laid
some_all list index laid last = (λ some. subst (λ l. SomeHas l laid) (sym (take_all index list last)) some, λ some. subst (λ l. SomeHas l laid) (take_all index list last) some)
