-- What one try does to the events that are still to come.
use Rattle.std.proofs.Common.{◌≡◌, ◌↔◌, ℕ, ◌+◌, ◌-◌, Bool, true, false, ◌&&◌, List, [], ◌∷◌, ◌++◌, refl, sym, ap, ◌∙◌, eq-eqb, append_assoc, rules}
use Rattle.std.specs.Prelude.{Contains, Some, None, filter, drop, ◌==◌}
use Rattle.std.specs.List.{flat_map}
use Rattle.std.specs.Bool.{one_answer}
use Rattle.std.proofs.lemmas.Bool.{and_from, and_parts, cases_Bool, eqb-true, cond-true, cond-false}
use Rattle.std.proofs.Math.Bool.{and-true}
use Rattle.lane_board.specs.Field.{Field}
use Rattle.srs.specs.declared.piece.Piece.{Piece}
use Rattle.srs.specs.declared.placement.Placement.{Placement}
use Rattle.srs.specs.Kick.{Table}
use Rattle.srs.specs.Piece.{all_pieces}
use Rattle.srs.specs.Placements.{placements_of}
use Rattle.srs.proofs.CallerLemmas.{Contains-here, Contains-there, filter-false, filter-true, placements_of-list}
use Rattle.well.specs.Well.{filled}
use Rattle.well.specs.Lock.{locked, rows_removed}
use Rattle.moves.specs.declared.key.DropMode.{DropMode}
use Rattle.moves.specs.Place.{IsPlace}
use Rattle.moves.specs.PlaceTest.{is_place, places_in}
use Rattle.place_sets.specs.declared.low_held.LowPlaces.{LowPlaces}
use Rattle.place_sets.specs.LowPlaces.{holds, piece_of}
use Rattle.hold_queue.specs.QueueSet.{QueuesInPlay, QueuesPermit, queues_in_play, queues_permit}
use Rattle.moves.proofs.CallerLemmas.{is_place-decides}
use Rattle.hold_queue.proofs.CallerLemmas.{queues_permit-decides}
use Rattle.enumerate.specs.declared.frame.Frame.{Frame}
use Rattle.enumerate.specs.declared.setup.Setup.{Setup}
use Rattle.well.specs.LockLaws.{is_below}
use Rattle.enumerate.specs.SearchState.{SearchState, after_of, may_play, places_at, is_live}
use Rattle.enumerate.specs.Standing.{may_lock}
use Rattle.enumerate.specs.Events.{Event, Tick, Flood, Found, Walk, entered, tried, tried_in_turn, enter}
use Rattle.enumerate.specs.Frames.{places_left, events_of}
use Rattle.enumerate.specs.Setups.{state_of}
use Rattle.enumerate.specs.declared.trying.Tried.{Tried}
use Rattle.enumerate.specs.Tries.{Enters, EntersAs, GoesAs, IsChild, Tries}
use Rattle.enumerate.proofs.PlaceLaws.{place-lockable}

pub filter-both : {A : Type 0} (a b : A → Bool) (xs : List A) → filter (λ x. a x && b x) xs ≡ filter b (filter a xs)
filter-both a b [] = refl
filter-both a b (x ∷ xs) = search (rules, cases_Bool, filter-true, filter-false, (filter-both a b xs))

pub filter-same : {A : Type 0} (a b : A → Bool) (xs : List A) → ((x : A) → Contains xs x → a x ≡ b x) → filter a xs ≡ filter b xs
filter-same a b [] each = refl
filter-same a b (x ∷ xs) each =
    let rest = filter-same a b xs (λ y among. each y (Contains-there x xs y among)) in
    search (rules, Contains-there, cases_Bool, filter-true, Contains-here, filter-false, rest)

-- what a frame's places hold may lock
abbrev pub Lockable : Field → LowPlaces → Type 0
Lockable F places = (q : Placement) → holds places q ≡ true → may_lock F (piece_of places) q ≡ true

-- and it lies below a row
abbrev pub HeldBelow : ℕ → LowPlaces → Type 0
HeldBelow rows places = (q : Placement) → holds places q ≡ true → is_below rows q ≡ true

-- what a flood below the rows left holds is the places there, in order
module _ (table : Table) (F : Field) (mode : DropMode) (piece : Piece) (places : LowPlaces) (kind : piece_of places ≡ piece) (rows : ℕ)
    (held : (q : Placement) → (holds places q ≡ true) ↔ ((q.piece ≡ piece) × IsPlace table F mode q × (is_below rows q ≡ true))) where
  pub flooded-places : (n : SearchState) → n.table ≡ table → n.mode ≡ mode → n.field ≡ F → places_left (Some places) None ≡ filter (is_below rows) (places_at n piece)
  unfolding places_left places_in
  flooded-places n t m f =
      ap (λ p. filter (λ q. holds places q && true) (placements_of p)) kind
      ∙ filter-same (λ q. holds places q && true) (λ q. is_place table F mode q && is_below rows q) (placements_of piece) each
      ∙ filter-both (is_place table F mode) (is_below rows) (placements_of piece)
      ∙ ap (filter (is_below rows)) (sym (λ i. filter (is_place (t i) (f i) (m i)) (placements_of piece)))
    where
      each : (q : Placement) → Contains (placements_of piece) q → (holds places q && true) ≡ (is_place table F mode q && is_below rows q)
      each q among =
          let of_kind : q.piece ≡ piece = (((placements_of-list piece).members q).0 among).kind in
          and-true (holds places q)
          ∙ one_answer {P = IsPlace table F mode q × (is_below rows q ≡ true)} (holds places q) (is_place table F mode q && is_below rows q)
          (λ h. let all = (held q).0 h in (all.1, all.2), λ p. (held q).1 (of_kind, p.0, p.1)) (
            λ h. let both = and_parts (is_place table F mode q) (is_below rows q) h in ((is_place-decides table F mode q).0 both.0, both.1),
            λ p. and_from (is_place table F mode q) (is_below rows q) ((is_place-decides table F mode q).1 p.0) p.1,
          )

  pub flooded-lockable : Lockable F places
  flooded-lockable q is_held = search (rules, place-lockable)

  pub flooded-below : HeldBelow rows places
  flooded-below q is_held = ((held q).0 is_held).2

-- ---- entering

-- the setup after a placement stands for the state there
module _ (setup child : Setup) (q : Placement) (field : filled child.well ≡ locked (filled setup.well) q) (rows : child.rows ≡ setup.rows - rows_removed (filled setup.well) q)
    (line : queues_in_play child.line.queues ≡ record (queues_in_play setup.line.queues) { played = (queues_in_play setup.line.queues).played ++ q.piece ∷ [] }) where
  pub child-state : (table : Table) (mode : DropMode) → state_of table mode child ≡ after_of (state_of table mode setup) q
  unfolding state_of after_of
  child-state table mode = λ i. record { table = table; mode = mode; field = field i; rows = rows i; line = line i }

module _ (setup : Setup) (q : Placement) (below : is_below setup.rows q ≡ true) where
  pub enters-full : setup.left ≡ 0 → setup.rows - rows_removed (filled setup.well) q ≡ 0 → EntersAs setup q (λ table mode prefix. Found prefix ∷ [])
  unfolding entered state_of enter after_of
  enters-full none done = search (rules, cond-true, eq-eqb)

  pub enters-rows_left : setup.left ≡ 0 → (setup.rows - rows_removed (filled setup.well) q == 0) ≡ false → EntersAs setup q (λ table mode prefix. Tick ∷ [])
  unfolding entered state_of enter after_of
  enters-rows_left none more = search (rules, cond-true, cond-false)

  -- the frame after a placement
  module _ (child : Frame) (state : (table : Table) (mode : DropMode) → state_of table mode child.setup ≡ after_of (state_of table mode setup) q) where
    pub is_child : child.setup.left + 1 ≡ setup.left → child.tried ≡ 0 → child.places ≡ None → ((table : Table) (mode : DropMode) → is_live child.setup.left (after_of (state_of table mode setup) q) ≡ true) → IsChild setup q child
    is_child left tried places live = search rules

    pub enters_child : child.setup.left + 1 ≡ setup.left → child.tried ≡ 0 → child.places ≡ None → ((table : Table) (mode : DropMode) → is_live child.setup.left (after_of (state_of table mode setup) q) ≡ true) →
        EntersAs setup q (λ table mode prefix. Tick ∷ events_of table mode prefix child)
    unfolding entered enter events_of places_left state_of
    enters_child left tried places live = search (rules, cond-true)

  -- a state that has no tiling
  pub enters-dead : (left : ℕ) → left + 1 ≡ setup.left → ((table : Table) (mode : DropMode) → is_live left (after_of (state_of table mode setup) q) ≡ false) →
      EntersAs setup q (λ table mode prefix. [])
  unfolding entered enter state_of
  enters-dead left less dead = search (rules, cond-true, cond-false)

-- ---- trying kinds, and a whole try

-- what does not lie below the rows left is passed over
pub entered-below : (walk : Walk) (prefix : List Placement) (n : SearchState) (qs : List Placement) → flat_map (entered walk prefix n) (filter (is_below n.rows) qs) ≡ flat_map (entered walk prefix n) qs
unfolding entered
entered-below walk prefix n [] = refl
entered-below walk prefix n (q ∷ qs) =
    search (rules, cases_Bool, filter-true, filter-false, cond-false, (entered-below walk prefix n qs))

events-shape : (table : Table) (mode : DropMode) (frame : Frame) (prefix : List Placement) → places_left frame.places frame.entered ≡ [] →
    events_of table mode prefix frame ≡ tried_in_turn (enter frame.setup.left) prefix (state_of table mode frame.setup) (drop frame.tried all_pieces)
unfolding events_of
events-shape table mode frame prefix none = search rules

tried_in_turn-cons : (walk : Walk) (prefix : List Placement) (n : SearchState) (c : Piece) (cs : List Piece) → tried_in_turn walk prefix n (c ∷ cs) ≡ tried walk prefix n c ++ tried_in_turn walk prefix n cs
unfolding tried_in_turn
tried_in_turn-cons walk prefix n c cs = append_assoc (tried walk prefix n c) (flat_map (tried walk prefix n) cs) (Tick ∷ [])

tried_in_turn-nil : (walk : Walk) (prefix : List Placement) (n : SearchState) → tried_in_turn walk prefix n [] ≡ Tick ∷ []
unfolding tried_in_turn
tried_in_turn-nil walk prefix n = refl

-- the queues answer whether a kind may be played
pub may_play-answer : (line : QueuesInPlay) (c : Piece) (r : Bool) → ((r ≡ true) ↔ QueuesPermit line (line.played ++ c ∷ [])) → may_play line c ≡ r
unfolding may_play
may_play-answer line c r answer = one_answer {P = QueuesPermit line (line.played ++ c ∷ [])} (queues_permit line (line.played ++ c ∷ [])) r (queues_permit-decides line (line.played ++ c ∷ [])) answer

pub goes-over : (table : Table) (mode : DropMode) (frame : Frame) → places_left frame.places frame.entered ≡ [] → drop frame.tried all_pieces ≡ [] → GoesAs table mode frame (λ prefix. Tick ∷ [])
goes-over table mode frame none last = search (rules, events-shape, tried_in_turn-nil)

module _ (table : Table) (mode : DropMode) (old new : Frame) (same : new.setup ≡ old.setup) (c : Piece)
    (none : places_left old.places old.entered ≡ []) (next : drop old.tried all_pieces ≡ c ∷ drop new.tried all_pieces) where
  begins : (prefix : List Placement) → events_of table mode prefix old
      ≡ tried (enter old.setup.left) prefix (state_of table mode old.setup) c ++ tried_in_turn (enter old.setup.left) prefix (state_of table mode old.setup) (drop new.tried all_pieces)
  begins prefix = search (rules, events-shape, tried_in_turn-cons)

  rest-same : (prefix : List Placement) → tried_in_turn (enter new.setup.left) prefix (state_of table mode new.setup) (drop new.tried all_pieces) ≡ tried_in_turn (enter old.setup.left) prefix (state_of table mode old.setup) (drop new.tried all_pieces)
  rest-same prefix = λ i. tried_in_turn (enter (same i).left) prefix (state_of table mode (same i)) (drop new.tried all_pieces)

  pub goes-past_kind : may_play (queues_in_play old.setup.line.queues) c ≡ false → places_left new.places new.entered ≡ [] → (prefix : List Placement) → events_of table mode prefix old ≡ events_of table mode prefix new
  unfolding tried state_of
  goes-past_kind not_played none_new prefix = search (rules, (begins prefix), cond-false, (events-shape table mode), (rest-same prefix))

  pub goes-flooded : may_play (queues_in_play old.setup.line.queues) c ≡ true → places_left new.places new.entered ≡ filter (is_below old.setup.rows) (places_at (state_of table mode old.setup) c) → GoesAs table mode old (λ prefix. Flood ∷ events_of table mode prefix new)
  unfolding tried state_of events_of
  goes-flooded played places = record {
    same = λ prefix.
        begins prefix
        ∙ ap (λ l. l ++ tried_in_turn (enter old.setup.left) prefix (state_of table mode old.setup) (drop new.tried all_pieces))
        (cond-true (may_play (queues_in_play old.setup.line.queues) c) (Flood ∷ flat_map (entered (enter old.setup.left) prefix (state_of table mode old.setup)) (places_at (state_of table mode old.setup) c)) [] played)
        ∙ ap (λ l. Flood ∷ (l ++ tried_in_turn (enter old.setup.left) prefix (state_of table mode old.setup) (drop new.tried all_pieces)))
        (sym (entered-below (enter old.setup.left) prefix (state_of table mode old.setup) (places_at (state_of table mode old.setup) c)))
        ∙ ap (λ l. Flood ∷ l)
        (sym ((λ i. flat_map (entered (enter (same i).left) prefix (state_of table mode (same i))) (places i)
        ++ tried_in_turn (enter (same i).left) prefix (state_of table mode (same i)) (drop new.tried all_pieces))));
  }

-- the next placement is entered
module _ (table : Table) (mode : DropMode) (old new : Frame) (same : new.setup ≡ old.setup) (q : Placement)
    (first : places_left old.places old.entered ≡ q ∷ places_left new.places new.entered) (kinds : new.tried ≡ old.tried) where
  pub one-entered : (prefix : List Placement) → events_of table mode prefix old ≡ entered (enter new.setup.left) prefix (state_of table mode new.setup) q ++ events_of table mode prefix new
  unfolding events_of
  one-entered prefix = search (rules, append_assoc)

  pub one-passed : EntersAs new.setup q (λ table mode prefix. []) → (prefix : List Placement) → events_of table mode prefix old ≡ events_of table mode prefix new
  one-passed enters prefix = one-entered prefix ∙ ap (λ l. l ++ events_of table mode prefix new) (enters.same table mode prefix)

-- where nothing is left to enter at a frame, what it does is what another does at its state with the same kinds
module _ (table : Table) (mode : DropMode) (old mid : Frame) (same : mid.setup ≡ old.setup) (kinds : mid.tried ≡ old.tried)
    (none : places_left old.places old.entered ≡ []) (none_mid : places_left mid.places mid.entered ≡ []) where
  goes-from : (events : List Placement → List Event) → GoesAs table mode mid events → GoesAs table mode old events
  goes-from events goes = search (rules, events-shape)

  pub none-left : (prefix : List Placement) → events_of table mode prefix old ≡ events_of table mode prefix mid
  none-left prefix = (goes-from (λ prefix. events_of table mode prefix mid) record { same = λ prefix. refl }).same prefix

pub line-permits : (line : QueuesInPlay) (c : Piece) → may_play line c ≡ true → QueuesPermit line (line.played ++ c ∷ [])
unfolding may_play
line-permits line c played = (queues_permit-decides line (line.played ++ c ∷ [])).0 played

pub not-zero : (k : ℕ) → (k ≡ 0 → ⊥) → (k == 0) ≡ false
not-zero k differs = search (rules, cases_Bool, eqb-true)

-- a try that enters a placement
module _ (table : Table) (mode : DropMode) (old new : Frame) (left : new.setup.left ≡ old.setup.left) (q : Placement) (step : new.entered ≡ Some q)
    (goes : (prefix : List Placement) → events_of table mode prefix old ≡ entered (enter new.setup.left) prefix (state_of table mode new.setup) q ++ events_of table mode prefix new) where
  pub enters-try : (child : Frame) (result : Tried) (steps : ℕ) → Enters new.setup q child result → Tries table mode old new child result steps steps
  enters-try child result steps enters = search rules

-- what a try comes to at a frame that does what another does
pub tries-as : (table : Table) (mode : DropMode) (old mid new child : Frame) (result : Tried) (before now : ℕ) → mid.setup.left ≡ old.setup.left →
    ((prefix : List Placement) → events_of table mode prefix old ≡ events_of table mode prefix mid) → Tries table mode mid new child result before now → Tries table mode old new child result before now
tries-as table mode old mid new child result before now left goes tries = search rules
