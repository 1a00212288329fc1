-- A search that begins after a given sequence finds what the whole list has above it, and makes no more floods.
use Rattle.std.proofs.Common.{◌≡◌, ℕ, zero, suc, Bool, true, false, ◌&&◌, List, [], ◌∷◌, ◌++◌, refl, sym, ap, subst, ◌∙◌, rules}
use Rattle.std.specs.Prelude.{Some, filter, drop, ◌==◌, if◌then◌else◌}
use Rattle.std.specs.List.{flat_map}
use Rattle.srs.specs.declared.piece.Piece.{Piece}
use Rattle.srs.specs.declared.placement.Placement.{Placement}
use Rattle.srs.specs.Piece.{all_pieces, piece_code}
use Rattle.srs.specs.Order.{placement_cmp}
use Rattle.srs.specs.Rising.{is_above}
use Rattle.srs.proofs.CallerLemmas.{Contains-from_flat_map, filter-each}
use Rattle.moves.specs.PlaceTest.{is_place}
use Rattle.well.specs.LockLaws.{is_below}
use Rattle.enumerate.specs.SearchState.{SearchState, after_of, may_play, places_at, is_live}
use Rattle.enumerate.specs.Events.{Event, Flood, found, entered, tried_in_turn, enter, sought}
use Rattle.enumerate.proofs.Solutions.{Sequences, in_kind, of_kind, of_place, sols}
use Rattle.enumerate.proofs.Walks.{finds-enter, found-append, found-if_live, found-tried_in_turn, found-places, prefixed, prefixed-append, prefixed-cons}
use Rattle.enumerate.proofs.Resumed.{all-past, following, past}

-- the filter goes into a choice
filter-if : (b : Bool) (test : List Placement → Bool) (l : List (List Placement)) → filter test (if b then l else []) ≡ (if b then filter test l else [])
filter-if b test l = search rules

leaf-past : (b : Bool) (prefix given : List Placement) → [] ≡ prefixed prefix (filter (past given) (if b then [] ∷ [] else []))
unfolding prefixed
leaf-past true prefix [] = refl
leaf-past true prefix (q ∷ given) = refl
leaf-past false prefix given = refl

all-past_nil : (more : Sequences) (n : SearchState) (pieces : List Piece) → filter (past []) (flat_map (of_kind more n) pieces) ≡ flat_map (of_kind more n) pieces
all-past_nil more n pieces = filter-each (past []) (flat_map (of_kind more n) pieces) (λ s among.
    let found = Contains-from_flat_map (of_kind more n) pieces s among in
    let first = in_kind more n found.0 s found.2 in
    subst (λ s. past [] s ≡ true) first.in_place.is refl)

module _ (left : ℕ) (prefix : List Placement) (n : SearchState) (q : Placement) (given : List Placement)
    (deeper : found (sought left (prefix ++ q ∷ []) (after_of n q) given) ≡ prefixed (prefix ++ q ∷ []) (filter (past given) (sols left (after_of n q)))) where
  found-first : (b : Bool) → found (if b && is_below n.rows q then sought left (prefix ++ q ∷ []) (after_of n q) given else []) ≡ prefixed prefix (following (sols left) n q given b)
  unfolding following found prefixed
  found-first b = search (rules, prefixed-cons)

  abbrev later_places : List Placement
  later_places = filter (is_above placement_cmp (Some q)) (places_at n q.piece)

  found-kind : (b : Bool) → found (if b then Flood ∷ ((if is_place n.table n.field n.mode q && is_below n.rows q then sought left (prefix ++ q ∷ []) (after_of n q) given else []) ++ flat_map (entered (enter left) prefix n) later_places) else [])
      ≡ prefixed prefix (if b then following (sols left) n q given (is_place n.table n.field n.mode q) ++ flat_map (of_place (sols left) n) later_places else [])
  unfolding found prefixed
  found-kind true = search (rules, found-append, found-first, found-places, finds-enter, prefixed-append)
  found-kind false = refl

pub found-sought : (left : ℕ) (prefix : List Placement) (n : SearchState) (given : List Placement) → found (sought left prefix n given) ≡ prefixed prefix (filter (past given) (sols left n))
unfolding sought sols found
found-sought zero prefix n given = leaf-past (n.rows == 0) prefix given
found-sought (suc left) prefix n [] =
    found-if_live (is_live left n) prefix (tried_in_turn (enter left) prefix n all_pieces) (filter (past []) (flat_map (of_kind (sols left) n) all_pieces))
    (found-tried_in_turn (enter left) (sols left) (finds-enter left) prefix n all_pieces ∙ ap (prefixed prefix) (sym (all-past_nil (sols left) n all_pieces)))
    ∙ ap (prefixed prefix) (sym (filter-if (is_live left n) (past []) (flat_map (of_kind (sols left) n) all_pieces)))
found-sought (suc left) prefix n (q ∷ given) =
    found-if_live (is_live left n) prefix (kind ++ tried_in_turn (enter left) prefix n (drop (piece_code q.piece) all_pieces)) (filter (past (q ∷ given)) (flat_map (of_kind (sols left) n) all_pieces))
    (found-append kind (tried_in_turn (enter left) prefix n (drop (piece_code q.piece) all_pieces))
    ∙ (λ i. found-kind left prefix n q given (found-sought left (prefix ++ q ∷ []) (after_of n q) given) (may_play n.line q.piece) i
    ++ found-tried_in_turn (enter left) (sols left) (finds-enter left) prefix n (drop (piece_code q.piece) all_pieces) i)
    ∙ sym (prefixed-append prefix of_kind_past (flat_map (of_kind (sols left) n) (drop (piece_code q.piece) all_pieces)))
    ∙ ap (prefixed prefix) (sym (all-past (sols left) n q given)))
    ∙ ap (prefixed prefix) (sym (filter-if (is_live left n) (past (q ∷ given)) (flat_map (of_kind (sols left) n) all_pieces)))
  where
    kind : List Event
    kind = if may_play n.line q.piece then Flood ∷ ((if is_place n.table n.field n.mode q && is_below n.rows q then sought left (prefix ++ q ∷ []) (after_of n q) given else []) ++ flat_map (entered (enter left) prefix n) (filter (is_above placement_cmp (Some q)) (places_at n q.piece))) else []

    of_kind_past : List (List Placement)
    of_kind_past = if may_play n.line q.piece then following (sols left) n q given (is_place n.table n.field n.mode q) ++ flat_map (of_place (sols left) n) (filter (is_above placement_cmp (Some q)) (places_at n q.piece)) else []
