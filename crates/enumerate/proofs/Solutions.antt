-- The solutions from a state on: their list rises, and has each of them.
use Rattle.std.proofs.Common.{◌≡◌, ℕ, zero, suc, true, List, [], ◌∷◌, map, sym, subst, ◌∙◌, rules}
use Rattle.std.specs.Prelude.{Contains, ◌==◌, if◌then◌else◌}
use Rattle.std.specs.List.{flat_map}
use Rattle.std.specs.List.Sorted.{IsStrictlySortedBy}
use Rattle.std.specs.declared.cmp.Ordering.TheVariants.{Less}
use Rattle.std.proofs.lemmas.Cmp.{ranked}
use Rattle.std.proofs.lemmas.List.Kept.{IsStrictlySortedBy-filter}
use Rattle.std.proofs.lemmas.Bool.{cond_both}
use Rattle.queue_pattern.specs.Order.{piece_cmp}
use Rattle.srs.specs.declared.piece.Piece.{Piece}
use Rattle.srs.specs.declared.placement.Placement.{Placement}
use Rattle.srs.specs.Piece.{all_pieces, piece_code}
use Rattle.srs.specs.Order.{placement_cmp, sequence_cmp}
use Rattle.srs.specs.Placements.{IsCanonicalInside, placements_of}
use Rattle.srs.proofs.CallerLemmas.{Contains-filter, Contains-from_filter, Contains-flat_map, Contains-from_flat_map, Contains-map, Contains-from_map, Contains-none, rising-cons, rising-flat_map, rising-map, rising-none, placement_cmp-piece, sequence_cmp-append, sequence_cmp-first, placements_of-list}
use Rattle.moves.specs.PlaceTest.{is_place, places_in}
use Rattle.well.specs.LockLaws.{is_below}
use Rattle.enumerate.specs.SearchState.{SearchState, after_of, may_play, places_at, is_live}

abbrev pub Sequences : Type 0
Sequences = SearchState → List (List Placement)

unfoldable pub of_place : Sequences → SearchState → Placement → List (List Placement)
of_place S n q = if is_below n.rows q then map (λ s. q ∷ s) (S (after_of n q)) else []

unfoldable pub of_kind : Sequences → SearchState → Piece → List (List Placement)
of_kind S n piece = if may_play n.line piece then flat_map (of_place S n) (places_at n piece) else []

-- the solutions with so many placements, in order
unfoldable pub sols : ℕ → Sequences
sols zero n = if n.rows == 0 then [] ∷ [] else []
sols (suc left) n = if is_live left n then flat_map (of_kind (sols left) n) all_pieces else []

-- a sequence begins with a placement that lies below the rows left
pub record InPlace (S : Sequences) (n : SearchState) (q : Placement) (s : List Placement) : Type 0 where
  pub below : is_below n.rows q ≡ true
  pub rest : List Placement
  pub among : Contains (S (after_of n q)) rest
  pub is : q ∷ rest ≡ s

pub in_place : (S : Sequences) (n : SearchState) (q : Placement) (s : List Placement) → Contains (of_place S n q) s → InPlace S n q s
unfolding of_place
in_place S n q s =
    cond_both (is_below n.rows q) (map (λ s. q ∷ s) (S (after_of n q))) [] (λ l. Contains l s → InPlace S n q s)
    (λ below among. let found = Contains-from_map (λ s. q ∷ s) (S (after_of n q)) s among in record { below = below; rest = found.0; among = found.1; is = found.2 })
    (λ _ among. absurd (Contains-none s among))

pub to_place : (S : Sequences) (n : SearchState) (q : Placement) (s : List Placement) → is_below n.rows q ≡ true → Contains (S (after_of n q)) s → Contains (of_place S n q) (q ∷ s)
unfolding of_place
to_place S n q s below among = search (rules, (Contains-map (λ s. q ∷ s) (S (after_of n q)) s among))

-- a sequence begins with a place of a kind that may be played
pub record InKind (S : Sequences) (n : SearchState) (piece : Piece) (s : List Placement) : Type 0 where
  pub played : may_play n.line piece ≡ true
  pub first : Placement
  pub is_one : is_place n.table n.field n.mode first ≡ true
  pub listed : IsCanonicalInside piece first
  pub in_place : InPlace S n first s

pub in_kind : (S : Sequences) (n : SearchState) (piece : Piece) (s : List Placement) → Contains (of_kind S n piece) s → InKind S n piece s
unfolding of_kind places_in
in_kind S n piece s =
    cond_both (may_play n.line piece) (flat_map (of_place S n) (places_at n piece)) [] (λ l. Contains l s → InKind S n piece s)
    (λ played among.
    let found = Contains-from_flat_map (of_place S n) (places_at n piece) s among in
    let kept = Contains-from_filter (is_place n.table n.field n.mode) (placements_of piece) found.0 found.1 in
    record { played = played; first = found.0; is_one = kept.1; listed = ((placements_of-list piece).members found.0).0 kept.0; in_place = in_place S n found.0 s found.2 })
    (λ _ among. absurd (Contains-none s among))

pub to_kind : (S : Sequences) (n : SearchState) (q : Placement) (s : List Placement) → may_play n.line q.piece ≡ true → IsCanonicalInside q.piece q → is_place n.table n.field n.mode q ≡ true → Contains (of_place S n q) s → Contains (of_kind S n q.piece) s
unfolding of_kind places_in
to_kind S n q s played listed is_one among =
    search (rules, (Contains-flat_map (of_place S n) (places_at n q.piece) q s (Contains-filter (is_place n.table n.field n.mode) (placements_of q.piece) q (((placements_of-list q.piece).members q).1 listed) is_one) among))

-- ---- they rise

abbrev pub Rises : List (List Placement) → Type 0
Rises = IsStrictlySortedBy sequence_cmp

pub places_at-rising : (n : SearchState) (piece : Piece) → IsStrictlySortedBy placement_cmp (places_at n piece)
unfolding places_in
places_at-rising n piece = IsStrictlySortedBy-filter placement_cmp (is_place n.table n.field n.mode) (placements_of piece) (placements_of-list piece).rising

pub prefixed-rising : (q : Placement) (l : List (List Placement)) → Rises l → Rises (map (λ s. q ∷ s) l)
prefixed-rising q l rising = rising-map sequence_cmp sequence_cmp (λ s. q ∷ s) l rising (λ s t e. sequence_cmp-append (q ∷ []) s t ∙ e)

module _ (S : Sequences) (rises : (n : SearchState) → Rises (S n)) (n : SearchState) where
  pub of_place-rising : (q : Placement) → Rises (of_place S n q)
  unfolding of_place
  of_place-rising q = search (rules, cond_both, prefixed-rising, rising-none)

  pub places-rising : (qs : List Placement) → IsStrictlySortedBy placement_cmp qs → Rises (flat_map (of_place S n) qs)
  places-rising qs rising =
      rising-flat_map placement_cmp sequence_cmp (of_place S n) qs rising of_place-rising
      (λ p q e x y in_p in_q. let v = in_place S n p x in_p in let w = in_place S n q y in_q in
      subst (λ x. sequence_cmp x y ≡ Less) v.is (subst (λ y. sequence_cmp (p ∷ v.rest) y ≡ Less) w.is (sequence_cmp-first p q v.rest w.rest e)))

  pub of_kind-rising : (piece : Piece) → Rises (of_kind S n piece)
  unfolding of_kind
  of_kind-rising piece =
      cond_both (may_play n.line piece) (flat_map (of_place S n) (places_at n piece)) [] Rises
      (λ _. places-rising (places_at n piece) (places_at-rising n piece)) (λ _. rising-none sequence_cmp)

pub earlier_kind : (S : Sequences) (n : SearchState) (p q : Piece) → piece_cmp p q ≡ Less → (x y : List Placement) → Contains (of_kind S n p) x → Contains (of_kind S n q) y → sequence_cmp x y ≡ Less
earlier_kind S n p q e x y in_p in_q =
    search (rules, (in_kind S n p x in_p), (in_kind S n q y in_q), (ranked (piece_code p) (piece_code q) Less (sym e)), (sequence_cmp-first (in_kind S n p x in_p).first (in_kind S n q y in_q).first (in_kind S n p x in_p).in_place.rest (in_kind S n q y in_q).in_place.rest), (placement_cmp-piece (in_kind S n p x in_p).first (in_kind S n q y in_q).first))

pub pieces-rising : IsStrictlySortedBy piece_cmp all_pieces
unfolding IsStrictlySortedBy
pieces-rising = search rules

pub sols-rising : (left : ℕ) (n : SearchState) → Rises (sols left n)
unfolding sols
sols-rising zero n = search (rules, (cond_both (n.rows == 0) ([] ∷ []) [] Rises), (rising-cons sequence_cmp [] []), Contains-none, (rising-none sequence_cmp))
sols-rising (suc left) n =
    cond_both (is_live left n) (flat_map (of_kind (sols left) n) all_pieces) [] Rises
    (λ _. rising-flat_map piece_cmp sequence_cmp (of_kind (sols left) n) all_pieces pieces-rising (of_kind-rising (sols left) (sols-rising left) n) (earlier_kind (sols left) n))
    (λ _. rising-none sequence_cmp)
