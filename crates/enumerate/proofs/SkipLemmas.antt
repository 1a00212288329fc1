-- What a frame is left with after it has passed all that comes before a placement.
use Rattle.std.proofs.Common.{◌≡◌, ◌↔◌, ℕ, suc, ◌+◌, Bool, true, false, ◌&&◌, List, [], ◌∷◌, ◌++◌, refl, sym, ap, subst, ◌∙◌, inl, inr, arith, append_assoc, rules}
use Rattle.std.specs.Prelude.{Contains, Option, Some, None, filter, drop, if◌then◌else◌}
use Rattle.std.specs.List.{flat_map}
use Rattle.std.specs.Option.{option_to_list}
use Rattle.std.specs.List.Sorted.{IsStrictlySortedBy}
use Rattle.std.specs.declared.cmp.Ordering.TheVariants.{Less, Equal, Greater}
use Rattle.std.specs.Cmp.{tied_itself}
use Rattle.std.proofs.lemmas.Bool.{and_parts, cases_Bool, cond-true, cond-false}
use Rattle.std.proofs.lemmas.List.Kept.{IsStrictlySortedBy-filter}
use Rattle.std.proofs.Math.Bool.{and-true, and_comm}
use Rattle.srs.specs.declared.placement.Placement.{Placement}
use Rattle.srs.specs.Kick.{Table}
use Rattle.srs.specs.Piece.{all_pieces, piece_code}
use Rattle.srs.specs.Order.{placement_cmp}
use Rattle.srs.specs.Placements.{placements_of}
use Rattle.srs.specs.Rising.{is_above}
use Rattle.srs.proofs.CallerLemmas.{Contains-cases, Contains-filter, Contains-from_filter, Contains-there, rising-first, rising-none, placement_cmp-total, placements_of-list}
use Rattle.moves.specs.declared.key.DropMode.{DropMode}
use Rattle.moves.specs.PlaceTest.{is_place}
use Rattle.place_sets.specs.declared.low_held.LowPlaces.{LowPlaces}
use Rattle.place_sets.specs.LowPlaces.{holds, piece_of}
use Rattle.hold_queue.specs.QueueSet.{queues_in_play}
use Rattle.enumerate.specs.declared.frame.Frame.{Frame}
use Rattle.enumerate.specs.declared.setup.Setup.{Setup}
use Rattle.enumerate.specs.declared.trying.Tried.{Tried}
use Rattle.enumerate.specs.declared.trying.Tried.TheVariants.{Passed, Flooded, Entered, Full, Over}
use Rattle.well.specs.LockLaws.{is_below}
use Rattle.enumerate.specs.SearchState.{SearchState, after_of, may_play, places_at, is_live}
use Rattle.enumerate.specs.Events.{Event, Tick, Flood, Found, found, floods, entered, tried_in_turn, enter, sought}
use Rattle.enumerate.specs.Frames.{places_left, entered_placement, events_of}
use Rattle.enumerate.specs.Setups.{state_of}
use Rattle.enumerate.specs.Tries.{Enters, EntersAs, IsChild}
use Rattle.enumerate.specs.Seeks.{SkipsTo}
use Rattle.enumerate.proofs.FloodCounts.{floods-sought}
use Rattle.enumerate.proofs.Resumed.{placed-there, there-placed}
use Rattle.enumerate.proofs.Solutions.{sols}
use Rattle.enumerate.proofs.Sought.{found-sought}
use Rattle.enumerate.proofs.TryLemmas.{entered-below, filter-both, filter-same}
use Rattle.enumerate.proofs.Walks.{finds-enter, found-append, floods-append, prefixed}

pub places_left-rising : (places : Option LowPlaces) (last : Option Placement) → IsStrictlySortedBy placement_cmp (places_left places last)
unfolding places_left
places_left-rising places last = search (rules, rising-none, IsStrictlySortedBy-filter, placements_of-list)

-- those above a placement
pub places_left-above : (places : Option LowPlaces) (q : Placement) → places_left places (Some q) ≡ filter (is_above placement_cmp (Some q)) (places_left places None)
unfolding places_left
places_left-above None q = refl
places_left-above (Some places) q =
    search (rules, (filter-both (holds places) (is_above placement_cmp (Some q)) (placements_of (piece_of places))), (filter-same (holds places) (λ p. holds places p && true) (placements_of (piece_of places))), and-true)

-- the order of two tests does not matter
filters-swap : (a b : Placement → Bool) (qs : List Placement) → filter a (filter b qs) ≡ filter b (filter a qs)
filters-swap a b qs = sym (filter-both b a qs) ∙ filter-same (λ q. b q && a q) (λ q. a q && b q) qs (λ q _. and_comm (b q) (a q)) ∙ filter-both a b qs

-- ---- looking for a placement in a rising list

pub not_first : (q target : Placement) (rest : List Placement) → placement_cmp q target ≡ Less → Contains (q ∷ rest) target ↔ Contains rest target
not_first q target rest e = (
  λ among. elim (Contains-cases q rest target among) [
    | inl same ↦ let tied : placement_cmp q target ≡ Equal = subst (λ t. placement_cmp q t ≡ Equal) same (tied_itself placement_cmp-total q) in cc
    | inr there ↦ there
  ],
  λ there. Contains-there q rest target there,
)

pub past_it : (q target : Placement) (rest : List Placement) → IsStrictlySortedBy placement_cmp (q ∷ rest) → placement_cmp q target ≡ Greater → Contains (q ∷ rest) target → ⊥
past_it q target rest rising e among = elim (Contains-cases q rest target among) [
  | inl same ↦ let tied : placement_cmp q target ≡ Equal = subst (λ t. placement_cmp q t ≡ Equal) same (tied_itself placement_cmp-total q) in cc
  | inr there ↦ let less : placement_cmp q target ≡ Less = rising-first placement_cmp q rest rising target there in cc
]

-- ---- passing by

pub skips-same : (old new : List Event) (before : ℕ) → old ≡ new → SkipsTo old new before before
skips-same old new before e = record { same = ap found e; counted = ap (λ l. floods l + before) e; fewer = omega (arith, ap floods e) }

pub skips-flood : (old new : List Event) (before now : ℕ) → old ≡ Flood ∷ new → now ≡ before + 1 → SkipsTo old new before now
unfolding found floods
skips-flood old new before now e steps = record { same = ap found e; counted = omega (arith, ap floods e, steps); fewer = omega (arith, ap floods e) }

pub skips-before : (a b c : List Event) (k l : ℕ) → SkipsTo a b k l → SkipsTo (a ++ c) (b ++ c) k l
skips-before a b c k l skips = search (rules, found-append, floods-append)

module _ (table : Table) (mode : DropMode) (old new : Frame) (same : new.setup ≡ old.setup) (q : Placement)
    (live : is_live old.setup.left (state_of table mode old.setup) ≡ true) (tried : new.tried ≡ piece_code q.piece) where
  abbrev here : SearchState
  here = state_of table mode old.setup

  abbrev rest : List Placement → List Event
  rest prefix = tried_in_turn (enter old.setup.left) prefix here (drop (piece_code q.piece) all_pieces)

  rest-same : (prefix : List Placement) → tried_in_turn (enter new.setup.left) prefix (state_of table mode new.setup) (drop new.tried all_pieces) ≡ rest prefix
  rest-same prefix = λ i. tried_in_turn (enter (same i).left) prefix (state_of table mode (same i)) (drop (tried i) all_pieces)

  -- a kind that may not be played
  pub passes-kind : may_play (queues_in_play old.setup.line.queues) q.piece ≡ false → places_left new.places new.entered ≡ [] → (prefix given : List Placement) →
      sought (suc old.setup.left) prefix here (q ∷ given) ≡ events_of table mode prefix new
  unfolding sought events_of state_of
  passes-kind not_played none prefix given = search (rules, cond-true, cond-false)

  -- what comes first at the placement itself
  abbrev first : List Placement → List Placement → List Event
  first prefix given = if is_place table here.field mode q && is_below old.setup.rows q then sought old.setup.left (prefix ++ q ∷ []) (after_of here q) given else []

  module _ (played : may_play (queues_in_play old.setup.line.queues) q.piece ≡ true) (left : places_left new.places new.entered ≡ filter (is_above placement_cmp (Some q)) (filter (is_below old.setup.rows) (places_at here q.piece))) where
    pub floods-kind : (prefix given : List Placement) → sought (suc old.setup.left) prefix here (q ∷ given) ≡ Flood ∷ (first prefix given ++ events_of table mode prefix new)
    unfolding sought events_of state_of
    floods-kind prefix given =
        cond-true (is_live old.setup.left here) _ [] live
        ∙ ap (λ l. l ++ rest prefix) (cond-true (may_play (queues_in_play old.setup.line.queues) q.piece) _ [] played)
        ∙ ap (λ l. Flood ∷ l)
        (append_assoc (first prefix given) (flat_map (entered (enter old.setup.left) prefix here) (filter (is_above placement_cmp (Some q)) (places_at here q.piece))) (rest prefix)
        ∙ ap (λ l. first prefix given ++ (l ++ rest prefix))
        (sym (entered-below (enter old.setup.left) prefix here (filter (is_above placement_cmp (Some q)) (places_at here q.piece)))
        ∙ ap (flat_map (entered (enter old.setup.left) prefix here)) (filters-swap (is_below old.setup.rows) (is_above placement_cmp (Some q)) (places_at here q.piece)))
        ∙ ap (λ l. first prefix given ++ l) (sym (λ i. flat_map (entered (enter (same i).left) prefix (state_of table mode (same i))) (left i) ++ rest-same prefix i)))

    -- no place
    pub skips-unplaced : (before now : ℕ) → now ≡ before + 1 → (is_place table here.field mode q && is_below old.setup.rows q) ≡ false → (prefix given : List Placement) →
        SkipsTo (sought (suc old.setup.left) prefix here (q ∷ given)) (events_of table mode prefix new) before now
    skips-unplaced before now steps unplaced prefix given =
        skips-flood _ (events_of table mode prefix new) before now
        (floods-kind prefix given
        ∙ ap (λ b. Flood ∷ ((if b then sought old.setup.left (prefix ++ q ∷ []) (after_of here q) given else []) ++ events_of table mode prefix new)) unplaced) steps

    -- a place with a frame of its own
    pub skips-entered : (before now : ℕ) → now ≡ before + 1 → is_place table here.field mode q ≡ true → new.entered ≡ Some q → (child : Frame) → IsChild new.setup q child → (prefix given : List Placement) →
        SkipsTo (sought (suc old.setup.left) prefix here (q ∷ given)) (sought (suc child.setup.left) (prefix ++ entered_placement new) (state_of table mode child.setup) given ++ events_of table mode prefix new) before now
    skips-entered before now steps placed step child is_child prefix given =
        let below : is_below old.setup.rows q ≡ true = subst (λ (s : Setup). is_below s.rows q ≡ true) same is_child.below in
        let depth : old.setup.left ≡ suc child.setup.left = omega (arith, is_child.left, ap (λ (s : Setup). s.left) same) in
        let at_child : after_of here q ≡ state_of table mode child.setup = ap (λ s. after_of (state_of table mode s) q) (sym same) ∙ sym (is_child.state table mode) in
        let step_is : q ∷ [] ≡ entered_placement new = sym (ap option_to_list step) in
        skips-flood _ _ before now
        (floods-kind prefix given
        ∙ ap (λ l. Flood ∷ (l ++ events_of table mode prefix new))
        (ap (λ b. if b && is_below old.setup.rows q then sought old.setup.left (prefix ++ q ∷ []) (after_of here q) given else []) placed
        ∙ cond-true (is_below old.setup.rows q) _ [] below
        ∙ (λ i. sought (depth i) (prefix ++ step_is i) (at_child i) given))) steps

    -- a place at which nothing more is to be done
    pub skips-dead : (before now : ℕ) → now ≡ before + 1 →
        ((prefix given : List Placement) → (found (first prefix given) ≡ []) × (floods (first prefix given) ≡ 0)) → (prefix given : List Placement) →
        SkipsTo (sought (suc old.setup.left) prefix here (q ∷ given)) (events_of table mode prefix new) before now
    unfolding found floods
    skips-dead before now steps dead prefix given =
        search (rules, (floods-kind prefix given), (found-append (first prefix given) (events_of table mode prefix new)), (floods-append (first prefix given) (events_of table mode prefix new)))

prefixed-empty : (prefix : List Placement) (l : List (List Placement)) → prefixed prefix l ≡ [] → l ≡ []
unfolding prefixed
prefixed-empty prefix [] e = refl
prefixed-empty prefix (s ∷ l) e = cc

-- where entering finds nothing and makes no flood, or comes to a solution with no placement to come, nothing is above
-- the given sequence
none-dead : (left : ℕ) (prefix : List Placement) (n : SearchState) (given : List Placement) → found (enter left prefix n) ≡ [] → floods (enter left prefix n) ≡ 0 → (found (sought left prefix n given) ≡ []) × (floods (sought left prefix n given) ≡ 0)
unfolding prefixed
none-dead left prefix n given finds makes =
    search (rules, (prefixed-empty prefix (sols left n) (sym ((finds-enter left).same prefix n) ∙ finds)), (found-sought left prefix n given), (floods-sought left prefix n given))

full-dead : (left : ℕ) (prefix s : List Placement) (n : SearchState) (given : List Placement) → enter left prefix n ≡ Found s ∷ [] → (found (sought left prefix n given) ≡ []) × (floods (sought left prefix n given) ≡ 0)
unfolding sought found floods enter
full-dead left prefix s n given e = search rules

module _ (table : Table) (mode : DropMode) (old new : Setup) (same : new ≡ old) (q : Placement) where
  abbrev there : SearchState
  there = state_of table mode old

  first-dead : (b : Bool) (events : Table → DropMode → List Placement → List Event) → EntersAs new q events →
      ((prefix given : List Placement) → enter old.left (prefix ++ q ∷ []) (after_of there q) ≡ events table mode (prefix ++ q ∷ []) →
      (found (sought old.left (prefix ++ q ∷ []) (after_of there q) given) ≡ []) × (floods (sought old.left (prefix ++ q ∷ []) (after_of there q) given) ≡ 0)) →
      (prefix given : List Placement) →
      (found (if b && is_below old.rows q then sought old.left (prefix ++ q ∷ []) (after_of there q) given else []) ≡ []) × (floods (if b && is_below old.rows q then sought old.left (prefix ++ q ∷ []) (after_of there q) given else []) ≡ 0)
  unfolding found floods entered state_of
  first-dead b events enters dead prefix given = search (rules, cases_Bool, cond-true, cond-false)

  pub dead-passed : (b : Bool) → EntersAs new q (λ table mode prefix. Tick ∷ []) → (prefix given : List Placement) →
      (found (if b && is_below old.rows q then sought old.left (prefix ++ q ∷ []) (after_of there q) given else []) ≡ []) × (floods (if b && is_below old.rows q then sought old.left (prefix ++ q ∷ []) (after_of there q) given else []) ≡ 0)
  unfolding found floods
  dead-passed b enters = first-dead b (λ table mode prefix. Tick ∷ []) enters (λ prefix given e. none-dead old.left (prefix ++ q ∷ []) (after_of there q) given (ap found e) (ap floods e))

  -- a place that leaves no tiling
  pub dead-untiled : (b : Bool) → EntersAs new q (λ table mode prefix. []) → (prefix given : List Placement) →
      (found (if b && is_below old.rows q then sought old.left (prefix ++ q ∷ []) (after_of there q) given else []) ≡ []) × (floods (if b && is_below old.rows q then sought old.left (prefix ++ q ∷ []) (after_of there q) given else []) ≡ 0)
  unfolding found floods
  dead-untiled b enters = first-dead b (λ table mode prefix. []) enters (λ prefix given e. none-dead old.left (prefix ++ q ∷ []) (after_of there q) given (ap found e) (ap floods e))

  pub dead-full : (b : Bool) → EntersAs new q (λ table mode prefix. Found prefix ∷ []) → (prefix given : List Placement) →
      (found (if b && is_below old.rows q then sought old.left (prefix ++ q ∷ []) (after_of there q) given else []) ≡ []) × (floods (if b && is_below old.rows q then sought old.left (prefix ++ q ∷ []) (after_of there q) given else []) ≡ 0)
  dead-full b enters = first-dead b (λ table mode prefix. Found prefix ∷ []) enters (λ prefix given e. full-dead old.left (prefix ++ q ∷ []) (prefix ++ q ∷ []) (after_of there q) given e)

-- ---- after the flood

pub left-above : (n : SearchState) (places : Option LowPlaces) (last : Option Placement) → last ≡ None → (q : Placement) → places_left places last ≡ filter (is_below n.rows) (places_at n q.piece) →
    places_left places (Some q) ≡ filter (is_above placement_cmp (Some q)) (filter (is_below n.rows) (places_at n q.piece))
left-above n places last none q e = search (rules, places_left-above)

module _ (n : SearchState) (q : Placement) (l : List Placement) (e : l ≡ filter (is_below n.rows) (places_at n q.piece)) (held : Bool) (answer : (held ≡ true) ↔ Contains l q) where
  kept : held ≡ true → Contains (places_at n q.piece) q × (is_below n.rows q ≡ true)
  kept is = Contains-from_filter (is_below n.rows) (places_at n q.piece) q (subst (λ l. Contains l q) e (answer.0 is))

  pub held-place : held ≡ true → is_place n.table n.field n.mode q ≡ true
  held-place is = there-placed n q (kept is).0

  pub held-below : held ≡ true → is_below n.rows q ≡ true
  held-below is = (kept is).1

  pub unheld-place : held ≡ false → (is_place n.table n.field n.mode q && is_below n.rows q) ≡ false
  unheld-place is =
      search (rules, (cases_Bool (is_place n.table n.field n.mode q && is_below n.rows q)), (Contains-filter (is_below n.rows) (places_at n q.piece) q), (placed-there n q), (and_parts (is_place n.table n.field n.mode q) (is_below n.rows q)))

-- what entering comes to where there is no frame after the placement
pub dead-result : (table : Table) (mode : DropMode) (old new : Setup) (same : new ≡ old) (q : Placement) (child : Frame) (result : Tried) → Enters new q child result → (result ≡ Entered → ⊥) → (b : Bool) → (prefix given : List Placement) →
    (found (if b && is_below old.rows q then sought old.left (prefix ++ q ∷ []) (after_of (state_of table mode old) q) given else []) ≡ []) × (floods (if b && is_below old.rows q then sought old.left (prefix ++ q ∷ []) (after_of (state_of table mode old) q) given else []) ≡ 0)
dead-result table mode old new same q child Passed enters none b = dead-passed table mode old new same q b enters
dead-result table mode old new same q child Flooded enters none b = absurd enters
dead-result table mode old new same q child Entered enters none b = absurd (none refl)
dead-result table mode old new same q child Full enters none b = dead-full table mode old new same q b enters
dead-result table mode old new same q child Over enters none b = absurd enters
