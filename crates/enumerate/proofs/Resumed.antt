-- What is found after a given sequence is what the whole list has above it.
use Rattle.std.proofs.Common.{◌≡◌, ◌<◌, Bool, true, false, ◌&&◌, List, [], ◌∷◌, ◌++◌, map, refl, sym, ap, subst, ◌∙◌, inl, inr, rules}
use Rattle.std.specs.Prelude.{Contains, Some, filter, drop, take, nat_lt, ◌-◌, if◌then◌else◌}
use Rattle.std.specs.List.{AllByRecursion, flat_map}
use Rattle.std.specs.List.Sorted.{IsStrictlySortedBy}
use Rattle.std.specs.Ordering.{is_lt, ordering_reverse, ordering_then}
use Rattle.std.specs.Cmp.{tied_itself}
use Rattle.std.specs.declared.cmp.Ordering.{Ordering}
use Rattle.std.specs.declared.cmp.Ordering.TheVariants.{Less, Equal, Greater}
use Rattle.std.proofs.lemmas.Bool.{cases_Bool, ltb-true}
use Rattle.std.proofs.lemmas.List.Elements.{filter-append}
use Rattle.std.proofs.lemmas.Grind.{flat_map-append}
use Rattle.srs.specs.declared.piece.Piece.{Piece}
use Rattle.srs.specs.declared.piece.Piece.TheVariants.{I, L, O, Z, T, J, S}
use Rattle.srs.specs.declared.placement.Placement.{Placement}
use Rattle.srs.specs.Piece.{all_pieces, piece_code}
use Rattle.srs.specs.Order.{placement_cmp, sequence_cmp}
use Rattle.srs.specs.Rising.{is_above}
use Rattle.srs.specs.Placements.{placements_of}
use Rattle.srs.proofs.CallerLemmas.{placements_of-list, placement_cmp-antisymmetric, placement_cmp-piece, placement_cmp-total, sequence_cmp-first, each-contained, Contains-filter, Contains-from_filter, Contains-from_flat_map, Contains-here, Contains-there, Contains-cases, Contains-none, filter-each, filter-true, filter-false, rising-first, rising-rest}
use Rattle.moves.specs.PlaceTest.{is_place, places_in}
use Rattle.moves.proofs.CallerLemmas.{is_place-decides}
use Rattle.enumerate.proofs.PlaceLaws.{lockable-listed, place-lockable}
use Rattle.well.specs.LockLaws.{is_below}
use Rattle.enumerate.specs.SearchState.{SearchState, after_of, may_play, places_at}
use Rattle.enumerate.proofs.Solutions.{Sequences, in_kind, in_place, of_kind, of_place, places_at-rising}

-- above a sequence in the order
abbrev pub past : List Placement → List Placement → Bool
past given s = is_above sequence_cmp (Some given) s

pub filter-none : {A : Type 0} (test : A → Bool) (xs : List A) → ((y : A) → Contains xs y → test y ≡ false) → filter test xs ≡ []
filter-none test [] each = refl
filter-none test (x ∷ xs) each = filter-false test x xs (each x (Contains-here x xs)) ∙ filter-none test xs (λ y among. each y (Contains-there x xs y among))

filter-prefixed : (q : Placement) (given : List Placement) (l : List (List Placement)) → filter (past (q ∷ given)) (map (λ s. q ∷ s) l) ≡ map (λ s. q ∷ s) (filter (past given) l)
filter-prefixed q given [] = refl
filter-prefixed q given (s ∷ l) =
    let same : past (q ∷ given) (q ∷ s) ≡ past given s = ap (λ r. is_lt (ordering_then r (sequence_cmp given s))) (tied_itself placement_cmp-total q) in
    search (rules, (cases_Bool (past given s)), (filter-true (past (q ∷ given)) (q ∷ s) (map (λ s. q ∷ s) l)), (filter-prefixed q given l), (filter-true (past given) s l), (filter-false (past (q ∷ given)) (q ∷ s) (map (λ s. q ∷ s) l)), (filter-false (past given) s l))

-- the first placement decides
past-later : (p q : Placement) (given s : List Placement) → placement_cmp p q ≡ Less → past (p ∷ given) (q ∷ s) ≡ true
past-later p q given s e = ap is_lt (sequence_cmp-first p q given s e)

past-earlier : (p q : Placement) (given s : List Placement) → placement_cmp p q ≡ Greater → past (p ∷ given) (q ∷ s) ≡ false
past-earlier p q given s e = ap (λ r. is_lt (ordering_then r (sequence_cmp given s))) e

reversed : (p q : Placement) → placement_cmp q p ≡ Less → placement_cmp p q ≡ Greater
reversed p q e = placement_cmp-total.antisymm p q ∙ ap ordering_reverse e

module _ (more : Sequences) (n : SearchState) (p : Placement) (given : List Placement) where
  -- what begins with a later placement is above, and what begins with an earlier one is not
  later-kept : (qs : List Placement) → ((q : Placement) → Contains qs q → placement_cmp p q ≡ Less) → filter (past (p ∷ given)) (flat_map (of_place more n) qs) ≡ flat_map (of_place more n) qs
  later-kept qs later = filter-each (past (p ∷ given)) (flat_map (of_place more n) qs) (λ s among.
      let found = Contains-from_flat_map (of_place more n) qs s among in
      let first = in_place more n found.0 s found.2 in
      subst (λ s. past (p ∷ given) s ≡ true) first.is (past-later p found.0 given first.rest (later found.0 found.1)))

  earlier-dropped : (q : Placement) → placement_cmp p q ≡ Greater → filter (past (p ∷ given)) (of_place more n q) ≡ []
  earlier-dropped q e = filter-none (past (p ∷ given)) (of_place more n q) (λ s among.
      let first = in_place more n q s among in
      subst (λ s. past (p ∷ given) s ≡ false) first.is (past-earlier p q given first.rest e))

  -- what follows the given sequence's first placement
  unfoldable pub following : Bool → List (List Placement)
  following held = if held && is_below n.rows p then map (λ s. p ∷ s) (filter (past given) (more (after_of n p))) else []

  of_place-past : filter (past (p ∷ given)) (of_place more n p) ≡ following true
  unfolding of_place following
  of_place-past = search (rules, filter-prefixed)

  abbrev later_than : Placement → Bool
  later_than = is_above placement_cmp (Some p)

  -- a rising list of places: those from the first placement on
  pub places-past : (qs : List Placement) → IsStrictlySortedBy placement_cmp qs → (held : Bool) → (held ≡ true → Contains qs p) → (Contains qs p → held ≡ true) →
      filter (past (p ∷ given)) (flat_map (of_place more n) qs) ≡ following held ++ flat_map (of_place more n) (filter later_than qs)
  unfolding following
  places-past [] rising true there here = absurd (Contains-none p (there refl))
  places-past [] rising false there here = refl
  places-past (q ∷ qs) rising held there here = at (placement_cmp p q) refl (places-past qs (rising-rest placement_cmp q qs rising) held)
    where
      whole : List (List Placement)
      whole = flat_map (of_place more n) qs

      -- the first is later, so that the given one is not among them
      not_there : placement_cmp p q ≡ Less → held ≡ true → ⊥
      not_there e h = elim (Contains-cases q qs p (there h)) [
        | inl same ↦ let tied : placement_cmp p q ≡ Equal = subst (λ z. placement_cmp z q ≡ Equal) same (tied_itself placement_cmp-total q) in cc
        | inr among ↦ let back : placement_cmp q p ≡ Less = rising-first placement_cmp q qs rising p among in let e' : placement_cmp p q ≡ Greater = reversed p q back in cc
      ]

      all_later : placement_cmp p q ≡ Less → (r : Placement) → Contains (q ∷ qs) r → placement_cmp p r ≡ Less
      all_later e r among = elim (Contains-cases q qs r among) [
        | inl same ↦ subst (λ z. placement_cmp p z ≡ Less) same e
        | inr among' ↦ placement_cmp-total.trans p q r e (rising-first placement_cmp q qs rising r among')
      ]

      none_held : (held : Bool) → (held ≡ true → ⊥) → (l : List (List Placement)) → l ≡ following held ++ l
      none_held true h l = absurd (h refl)
      none_held false h l = refl

      from_here : (h : Bool) → (h ≡ true) → following h ≡ following true
      from_here true e = refl
      from_here false e = cc

      at : (o : Ordering) → placement_cmp p q ≡ o → ((held ≡ true → Contains qs p) → (Contains qs p → held ≡ true) → filter (past (p ∷ given)) whole ≡ following held ++ flat_map (of_place more n) (filter later_than qs)) → filter (past (p ∷ given)) (of_place more n q ++ whole) ≡ following held ++ flat_map (of_place more n) (filter later_than (q ∷ qs))
      at Less e others =
          later-kept (q ∷ qs) (all_later e)
          ∙ none_held held (not_there e) (of_place more n q ++ whole)
          ∙ ap (λ l. following held ++ flat_map (of_place more n) l) (sym (filter-each later_than (q ∷ qs) (λ r among. ap is_lt (all_later e r among))))
      at Equal e others =
          let same : p ≡ q = placement_cmp-antisymmetric p q e in
          let after : (r : Placement) → Contains qs r → placement_cmp p r ≡ Less = λ r among. subst (λ z. placement_cmp z r ≡ Less) (sym same) (rising-first placement_cmp q qs rising r among) in
          let held_here : held ≡ true = here (subst (λ z. Contains (z ∷ qs) p) same (Contains-here p qs)) in
          filter-append (past (p ∷ given)) (of_place more n q) whole
          ∙ (λ i. (ap (λ z. filter (past (p ∷ given)) (of_place more n z)) (sym same) ∙ of_place-past ∙ sym (from_here held held_here)) i ++ later-kept qs after i)
          ∙ ap (λ l. following held ++ flat_map (of_place more n) l)
          (sym (filter-false later_than q qs (ap is_lt e) ∙ filter-each later_than qs (λ r among. ap is_lt (after r among))))
      at Greater e others =
          filter-append (past (p ∷ given)) (of_place more n q) whole
          ∙ ap (λ l. l ++ filter (past (p ∷ given)) whole) (earlier-dropped q e)
          ∙ others
          (λ h. elim (Contains-cases q qs p (there h)) [
            | inl same ↦ let tied : placement_cmp p q ≡ Equal = subst (λ z. placement_cmp z q ≡ Equal) same (tied_itself placement_cmp-total q) in cc
            | inr among ↦ among
          ])
          (λ among. here (Contains-there q qs p among))
          ∙ ap (λ l. following held ++ flat_map (of_place more n) l) (sym (filter-false later_than q qs (ap is_lt e)))

-- ---- kinds

-- the kinds before one, the kind itself, and those after it
pub kinds-split : (piece : Piece) → all_pieces ≡ take (piece_code piece - 1) all_pieces ++ (piece ∷ drop (piece_code piece) all_pieces)
kinds-split piece = search rules

-- the kinds before have lesser codes, and those after greater ones
earlier_code : (piece c : Piece) → Contains (take (piece_code piece - 1) all_pieces) c → piece_code c < piece_code piece
earlier_code piece c among = search (rules, ltb-true, each-contained)

later_code : (piece c : Piece) → Contains (drop (piece_code piece) all_pieces) c → piece_code piece < piece_code c
later_code piece c among = ltb-true (piece_code piece) (piece_code c) (each-contained (λ c. nat_lt (piece_code piece) (piece_code c) ≡ true) (drop (piece_code piece) all_pieces) c (each piece) among)
  where
    each : (piece : Piece) → AllByRecursion (λ c. nat_lt (piece_code piece) (piece_code c) ≡ true) (drop (piece_code piece) all_pieces)
    each I = (refl, (refl, (refl, (refl, (refl, (refl, tt))))))
    each L = (refl, (refl, (refl, (refl, (refl, tt)))))
    each O = (refl, (refl, (refl, (refl, tt))))
    each Z = (refl, (refl, (refl, tt)))
    each T = (refl, (refl, tt))
    each J = (refl, tt)
    each S = tt

-- a place of its kind is among the places, and what is among them is a place
pub placed-there : (n : SearchState) (p : Placement) → is_place n.table n.field n.mode p ≡ true → Contains (places_at n p.piece) p
unfolding places_in
placed-there n p placed =
    Contains-filter (is_place n.table n.field n.mode) (placements_of p.piece) p
    (((placements_of-list p.piece).members p).1 (lockable-listed n.field p.piece p (place-lockable n.table n.field n.mode p.piece p refl ((is_place-decides n.table n.field n.mode p).0 placed)))) placed

pub there-placed : (n : SearchState) (p : Placement) → Contains (places_at n p.piece) p → is_place n.table n.field n.mode p ≡ true
unfolding places_in
there-placed n p among = (Contains-from_filter (is_place n.table n.field n.mode) (placements_of p.piece) p among).1

module _ (more : Sequences) (n : SearchState) (p : Placement) (given : List Placement) where
  kinds-dropped : (pieces : List Piece) → ((c : Piece) → Contains pieces c → piece_code c < piece_code p.piece) → filter (past (p ∷ given)) (flat_map (of_kind more n) pieces) ≡ []
  kinds-dropped pieces each = filter-none (past (p ∷ given)) (flat_map (of_kind more n) pieces) (λ s among.
      let found = Contains-from_flat_map (of_kind more n) pieces s among in
      let first = in_kind more n found.0 s found.2 in
      let before : piece_code first.first.piece < piece_code p.piece = subst (λ c. piece_code c < piece_code p.piece) (sym first.listed.kind) (each found.0 found.1) in
      search (rules, (past-earlier p first.first given first.in_place.rest (reversed p first.first (placement_cmp-piece first.first p before)))))

  kinds-kept : (pieces : List Piece) → ((c : Piece) → Contains pieces c → piece_code p.piece < piece_code c) → filter (past (p ∷ given)) (flat_map (of_kind more n) pieces) ≡ flat_map (of_kind more n) pieces
  kinds-kept pieces each = filter-each (past (p ∷ given)) (flat_map (of_kind more n) pieces) (λ s among.
      let found = Contains-from_flat_map (of_kind more n) pieces s among in
      let first = in_kind more n found.0 s found.2 in
      let after : piece_code p.piece < piece_code first.first.piece = subst (λ c. piece_code p.piece < piece_code c) (sym first.listed.kind) (each found.0 found.1) in
      search (rules, (past-later p first.first given first.in_place.rest (placement_cmp-piece p first.first after))))

  -- what the kind of the first placement has above the sequence
  kind-past : filter (past (p ∷ given)) (of_kind more n p.piece)
      ≡ (if may_play n.line p.piece then following more n p given (is_place n.table n.field n.mode p) ++ flat_map (of_place more n) (filter (is_above placement_cmp (Some p)) (places_at n p.piece)) else [])
  unfolding of_kind
  kind-past =
      search (rules, (places-past more n p given (places_at n p.piece) (places_at-rising n p.piece) (is_place n.table n.field n.mode p) (placed-there n p) (there-placed n p)))

  pub all-past : filter (past (p ∷ given)) (flat_map (of_kind more n) all_pieces)
      ≡ (if may_play n.line p.piece then following more n p given (is_place n.table n.field n.mode p) ++ flat_map (of_place more n) (filter (is_above placement_cmp (Some p)) (places_at n p.piece)) else [])
      ++ flat_map (of_kind more n) (drop (piece_code p.piece) all_pieces)
  all-past =
      ap (λ l. filter (past (p ∷ given)) (flat_map (of_kind more n) l)) (kinds-split p.piece)
      ∙ ap (filter (past (p ∷ given))) (flat_map-append (of_kind more n) (take (piece_code p.piece - 1) all_pieces) (p.piece ∷ drop (piece_code p.piece) all_pieces))
      ∙ filter-append (past (p ∷ given)) (flat_map (of_kind more n) (take (piece_code p.piece - 1) all_pieces)) (of_kind more n p.piece ++ flat_map (of_kind more n) (drop (piece_code p.piece) all_pieces))
      ∙ ap (λ l. l ++ filter (past (p ∷ given)) (of_kind more n p.piece ++ flat_map (of_kind more n) (drop (piece_code p.piece) all_pieces))) (kinds-dropped (take (piece_code p.piece - 1) all_pieces) (earlier_code p.piece))
      ∙ filter-append (past (p ∷ given)) (of_kind more n p.piece) (flat_map (of_kind more n) (drop (piece_code p.piece) all_pieces))
      ∙ (λ i. kind-past i ++ kinds-kept (drop (piece_code p.piece) all_pieces) (later_code p.piece) i)
