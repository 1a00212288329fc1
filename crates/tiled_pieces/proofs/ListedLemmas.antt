-- Listed tilings, and lists of them.
use Rattle.std.proofs.Common.{◌≡◌, ◌↔◌, ℕ, ◌+◌, ◌<◌, ◌≤◌, Bool, true, false, List, [], ◌∷◌, ◌++◌, length, get_or, take, refl, sym, ap, subst, ◌∙◌, inl, inr, arith, rules}
use Rattle.std.specs.List.{Contains}
use Rattle.std.proofs.lemmas.Bool.{cases_eq, false≢true}
use Rattle.std.proofs.lemmas.List.{get_or-map, take_all, take_more}
use Rattle.std.proofs.lemmas.List.Elements.{Contains-append_left, Contains-push, Contains-push_cases}
use Rattle.lane_board.specs.Field.{Field}
use Rattle.srs.specs.declared.piece.Piece.{Piece}
use Rattle.srs.specs.declared.piece.Piece.TheVariants.{I}
use Rattle.srs.specs.Piece.{piece_code}
use Rattle.srs.proofs.CallerLemmas.{piece_code-injective}
use Rattle.empty_cells.specs.declared.empties.Empties.{Empties}
use Rattle.empty_cells.specs.Empties.{empty_cells}
use Rattle.tiled_pieces.specs.declared.listed.ListedTiling.{ListedTiling}
use Rattle.tiled_pieces.specs.TilingLists.{HasPiece, LaidPiece, SomeHas, laid_at, most_pieces}

-- where the kind is this one, the piece at an index is this one exactly if the cells are these
pub laid_same : (tiling : ListedTiling) (index : ℕ) (e : Empties) (piece : Piece) (cells : Field) (equal : Bool) → index < length tiling.cells → piece_code (get_or tiling.kinds index I) ≡ piece_code piece
    → ((equal ≡ true) ↔ (empty_cells (get_or tiling.cells index e) ≡ cells)) → (equal ≡ true) ↔ (laid_at tiling index ≡ record { piece = piece; cells = cells })
unfolding laid_at
laid_same tiling index e piece cells equal known kind both = search (rules, piece_code-injective, get_or-map)

-- where the kind is another, so is the piece
pub laid_other : (tiling : ListedTiling) (index : ℕ) (piece : Piece) (cells : Field) (same : Bool) → (piece_code (get_or tiling.kinds index I) ≡ piece_code piece → ⊥) → same ≡ false
    → (same ≡ true) ↔ (laid_at tiling index ≡ record { piece = piece; cells = cells })
unfolding laid_at
laid_other tiling index piece cells same other is = search rules

pub laid_kind : (tiling : ListedTiling) (index : ℕ) → (laid_at tiling index).piece ≡ get_or tiling.kinds index I
unfolding laid_at
laid_kind tiling index = refl

pub laid_of : (tiling : ListedTiling) (index : ℕ) (e : Empties) (piece : Piece) → index < length tiling.cells → get_or tiling.kinds index I ≡ piece → laid_at tiling index ≡ record { piece = piece; cells = empty_cells (get_or tiling.cells index e) }
unfolding laid_at
laid_of tiling index e piece known kind = search (rules, get_or-map)

-- no index before this one has the piece
pub record NoneBefore (tiling : ListedTiling) (laid : LaidPiece) (index : ℕ) : Type 0 where
  pub none : (k : ℕ) → k < index → laid_at tiling k ≡ laid → ⊥

pub none_first : (tiling : ListedTiling) (laid : LaidPiece) → NoneBefore tiling laid 0
none_first tiling laid = record { none = λ k below. absurd (omega arith) }

pub none_next : (tiling : ListedTiling) (laid : LaidPiece) (index : ℕ) (answer : Bool) → NoneBefore tiling laid index → ((answer ≡ true) ↔ (laid_at tiling index ≡ laid)) → answer ≡ false → NoneBefore tiling laid (index + 1)
none_next tiling laid index answer before both none_here = search (rules, cases_eq, false≢true)

pub none_at_all : (tiling : ListedTiling) (laid : LaidPiece) (index : ℕ) → NoneBefore tiling laid index → most_pieces ≤ index → HasPiece tiling laid → ⊥
none_at_all tiling laid index before last has = before.none has.index (omega (arith, has.known, last)) has.there

-- none of the tilings before this one has the piece
pub record NoneHave (list : List ListedTiling) (laid : LaidPiece) (index : ℕ) : Type 0 where
  pub none : (tiling : ListedTiling) → Contains (take index list) tiling → HasPiece tiling laid → ⊥

pub none_listed : (tiling : ListedTiling) → Contains [] tiling → ⊥
none_listed tiling (k, below, _) = absurd (omega arith)

pub have_next : (list : List ListedTiling) (laid : LaidPiece) (index : ℕ) (x : ListedTiling) (answer : Bool) → index < length list → x ≡ get_or list index x → NoneHave list laid index → ((answer ≡ true) ↔ HasPiece x laid) → answer ≡ false →
    NoneHave list laid (index + 1)
have_next list laid index x answer below at before both none_here = record { none = none }
  where
    none : (tiling : ListedTiling) → Contains (take (index + 1) list) tiling → HasPiece tiling laid → ⊥
    none tiling listed has = elim (Contains-push_cases (take index list) (get_or list index x) tiling (subst (λ l. Contains l tiling) (take_more list index x below) listed)) [
      | inl there ↦ before.none tiling there has
      | inr here ↦ false≢true (sym none_here ∙ both.1 (subst (λ t. HasPiece t laid) (sym (at ∙ here)) has))
    ]

pub have_none : (list : List ListedTiling) (laid : LaidPiece) (index : ℕ) → length list ≤ index → NoneHave list laid index → SomeHas list laid → ⊥
have_none list laid index last before some = before.none some.tiling (subst (λ l. Contains l some.tiling) (sym (take_all index list last)) some.listed) some.has

pub one_further : (list : List ListedTiling) (index : ℕ) (x : ListedTiling) → index < length list → x ≡ get_or list index x → take (index + 1) list ≡ take index list ++ x ∷ []
one_further list index x below at = take_more list index x below ∙ ap (λ t. take index list ++ t ∷ []) (sym at)

-- the tilings before this one that have the piece
pub record KeptWith (list kept : List ListedTiling) (laid : LaidPiece) (index : ℕ) : Type 0 where
  pub both : (tiling : ListedTiling) → Contains kept tiling ↔ (Contains (take index list) tiling × HasPiece tiling laid)

pub kept_next : (list kept more : List ListedTiling) (laid : LaidPiece) (index : ℕ) (x : ListedTiling) → index < length list → x ≡ get_or list index x → KeptWith list kept laid index → HasPiece x laid → more ≡ kept ++ x ∷ [] →
    KeptWith list more laid (index + 1)
kept_next list kept more laid index x below at before has is = record { both = both }
  where
    longer : take (index + 1) list ≡ take index list ++ x ∷ []
    longer = one_further list index x below at

    both : (tiling : ListedTiling) → Contains more tiling ↔ (Contains (take (index + 1) list) tiling × HasPiece tiling laid)
    both tiling = (
      λ listed. elim (Contains-push_cases kept x tiling (subst (λ l. Contains l tiling) is listed)) [
        | inl there ↦
            let told = (before.both tiling).0 there in
            (subst (λ l. Contains l tiling) (sym longer) (Contains-append_left (take index list) (x ∷ []) tiling told.0), told.1)
        | inr here ↦ (subst (λ l. Contains l tiling) (sym longer) (subst (λ t. Contains (take index list ++ x ∷ []) t) here (Contains-push (take index list) x)), subst (λ t. HasPiece t laid) here has)
      ],
      λ told. subst (λ l. Contains l tiling) (sym is) (elim (Contains-push_cases (take index list) x tiling (subst (λ l. Contains l tiling) longer told.0)) [
        | inl there ↦ Contains-append_left kept (x ∷ []) tiling ((before.both tiling).1 (there, told.1))
        | inr here ↦ subst (λ t. Contains (kept ++ x ∷ []) t) here (Contains-push kept x)
      ]),
    )

pub kept_passed : (list kept : List ListedTiling) (laid : LaidPiece) (index : ℕ) (x : ListedTiling) (answer : Bool) → index < length list → x ≡ get_or list index x → KeptWith list kept laid index → ((answer ≡ true) ↔ HasPiece x laid) → answer ≡ false →
    KeptWith list kept laid (index + 1)
kept_passed list kept laid index x answer below at before has none_here = record { both = both }
  where
    longer : take (index + 1) list ≡ take index list ++ x ∷ []
    longer = one_further list index x below at

    both : (tiling : ListedTiling) → Contains kept tiling ↔ (Contains (take (index + 1) list) tiling × HasPiece tiling laid)
    both tiling = (
      λ listed. let told = (before.both tiling).0 listed in (subst (λ l. Contains l tiling) (sym longer) (Contains-append_left (take index list) (x ∷ []) tiling told.0), told.1),
      λ told. elim (Contains-push_cases (take index list) x tiling (subst (λ l. Contains l tiling) longer told.0)) [
        | inl there ↦ (before.both tiling).1 (there, told.1)
        | inr here ↦ absurd (false≢true (sym none_here ∙ has.1 (subst (λ t. HasPiece t laid) (sym here) told.1)))
      ],
    )

pub kept_all : (list kept : List ListedTiling) (laid : LaidPiece) (index : ℕ) → length list ≤ index → KeptWith list kept laid index → (tiling : ListedTiling) → Contains kept tiling ↔ (Contains list tiling × HasPiece tiling laid)
kept_all list kept laid index last before tiling = subst (λ l. Contains kept tiling ↔ (Contains l tiling × HasPiece tiling laid)) (take_all index list last) (before.both tiling)
