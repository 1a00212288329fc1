-- Tries at frames, from the first state to the deepest.
use Rattle.std.proofs.Common.{◌≡◌, ℕ, suc, ◌+◌, ◌<◌, ◌≤◌, Bool, true, false, List, [], ◌∷◌, ◌++◌, length, refl, sym, ap, subst, ◌∙◌, arith, append_assoc, length-append, get_or, set, take, length-set, rules}
use Rattle.std.specs.Prelude.{nat_le, ◌-◌}
use Rattle.std.proofs.Math.Seq.{take-append-add, take-suc}
use Rattle.std.specs.List.{flat_map}
use Rattle.std.proofs.lemmas.Bool.{leb-true, le-leb, and_from}
use Rattle.std.proofs.lemmas.List.{append-nil, get_or-append_right, length-take-le, take-append-le, take-set, take_all, take_at, take_more_set}
use Rattle.std.proofs.lemmas.Grind.{flat_map-append}
use Rattle.srs.specs.declared.placement.Placement.{Placement}
use Rattle.srs.specs.Kick.{Table}
use Rattle.srs.proofs.CallerLemmas.{and_first, and_second}
use Rattle.moves.specs.declared.key.DropMode.{DropMode}
use Rattle.enumerate.specs.declared.frame.Frame.{Frame}
use Rattle.enumerate.specs.Events.{Event, Tick, Flood, Found, found, floods}
use Rattle.enumerate.specs.Frames.{events_of, has_room, path_of, stacked, entered_placement}
use Rattle.enumerate.specs.Tries.{GoesAs}
use Rattle.enumerate.specs.Walks.{Finds, IsTry}

-- the deepest frame comes first
pub stacked-last : (table : Table) (mode : DropMode) (prefix : List Placement) (frames : List Frame) (frame : Frame) →
    stacked table mode prefix (frames ++ frame ∷ []) ≡ events_of table mode (prefix ++ path_of frames) frame ++ stacked table mode prefix frames
unfolding stacked path_of
stacked-last table mode prefix [] frame = sym (append-nil (events_of table mode prefix frame)) ∙ ap (λ p. events_of table mode p frame ++ []) (sym (append-nil prefix))
stacked-last table mode prefix (f ∷ frames) frame =
    search (rules, (stacked-last table mode (prefix ++ entered_placement f) frames frame), (append_assoc (events_of table mode ((prefix ++ entered_placement f) ++ path_of frames) frame) (stacked table mode (prefix ++ entered_placement f) frames) (events_of table mode prefix f)), (append_assoc prefix (entered_placement f) (path_of frames)))

pub path-last : (frames : List Frame) (frame : Frame) → path_of (frames ++ frame ∷ []) ≡ path_of frames ++ entered_placement frame
unfolding path_of
path-last frames frame = flat_map-append entered_placement frames (frame ∷ []) ∙ ap (λ l. flat_map entered_placement frames ++ l) (append-nil (entered_placement frame))

-- room for frames at the end
pub room-last : (depth : ℕ) (frames : List Frame) (frame : Frame) → has_room depth (frames ++ frame ∷ []) ≡ true → (has_room depth frames ≡ true) × (frame.setup.left + (depth + length frames) ≤ 19)
unfolding has_room
room-last depth [] frame room = let fits = leb-true (frame.setup.left + depth) 19 (and_first (nat_le (frame.setup.left + depth) 19) true room) in (refl, omega (arith, fits))
room-last depth (f ∷ frames) frame room =
    search (rules, and_second, and_from, and_first, (room-last (suc depth) frames frame))

pub room-more : (depth : ℕ) (frames : List Frame) (frame : Frame) → has_room depth frames ≡ true → frame.setup.left + (depth + length frames) ≤ 19 → has_room depth (frames ++ frame ∷ []) ≡ true
unfolding has_room
room-more depth [] frame room fits = and_from (nat_le (frame.setup.left + depth) 19) true (le-leb (frame.setup.left + depth) 19 (omega (arith, fits))) refl
room-more depth (f ∷ frames) frame room fits =
    search (rules, and_from, and_first, and_second, (room-more (suc depth) frames frame))

module _ (table : Table) (mode : DropMode) (fs : List Frame) (old new : Frame) (room : has_room 0 (fs ++ old ∷ []) ≡ true) (left : new.setup.left ≡ old.setup.left) where
  abbrev below : List Event
  below = stacked table mode [] fs

  -- by its first events the deepest frame goes on
  old-events : (events : List Placement → List Event) → GoesAs table mode old events → stacked table mode [] (fs ++ old ∷ []) ≡ events (path_of fs) ++ below
  old-events events goes = stacked-last table mode [] fs old ∙ ap (λ l. l ++ below) (goes.same (path_of fs))

  new-events : stacked table mode [] (fs ++ new ∷ []) ≡ events_of table mode (path_of fs) new ++ below
  new-events = stacked-last table mode [] fs new

  room-new : has_room 0 (fs ++ new ∷ []) ≡ true
  room-new = let rest = room-last 0 fs old room in room-more 0 fs new rest.0 (omega (arith, rest.1, left))

  pub try-passed : (before now : ℕ) → GoesAs table mode old (λ prefix. Tick ∷ events_of table mode prefix new) → now ≡ before → IsTry table mode (fs ++ old ∷ []) (fs ++ new ∷ []) before now false
  unfolding found floods
  try-passed before now goes steps = search (rules, (old-events (λ prefix. Tick ∷ events_of table mode prefix new) goes), new-events, room-new)

  pub try-flooded : (before now : ℕ) → GoesAs table mode old (λ prefix. Flood ∷ events_of table mode prefix new) → now ≡ before + 1 → IsTry table mode (fs ++ old ∷ []) (fs ++ new ∷ []) before now false
  unfolding found floods
  try-flooded before now goes steps = search (rules, (old-events (λ prefix. Flood ∷ events_of table mode prefix new) goes), new-events, room-new)

  pub try-full : (before now : ℕ) → GoesAs table mode old (λ prefix. Found (prefix ++ entered_placement new) ∷ events_of table mode prefix new) → now ≡ before → IsTry table mode (fs ++ old ∷ []) (fs ++ new ∷ []) before now true
  unfolding found floods
  try-full before now goes steps =
      search (rules, (old-events (λ prefix. Found (prefix ++ entered_placement new) ∷ events_of table mode prefix new) goes), new-events, room-new, (path-last fs new))

  pub try-over : (before now : ℕ) → GoesAs table mode old (λ prefix. Tick ∷ []) → now ≡ before → IsTry table mode (fs ++ old ∷ []) fs before now false
  unfolding found floods
  try-over before now goes steps = search (rules, (old-events (λ prefix. Tick ∷ []) goes), (room-last 0 fs old room))

  pub try-entered : (before now : ℕ) (child : Frame) → GoesAs table mode old (λ prefix. Tick ∷ (events_of table mode (prefix ++ entered_placement new) child ++ events_of table mode prefix new)) → now ≡ before → child.setup.left + 1 ≡ old.setup.left →
      IsTry table mode (fs ++ old ∷ []) ((fs ++ new ∷ []) ++ child ∷ []) before now false
  unfolding found floods
  try-entered before now child goes steps fewer =
      search (rules, (stacked-last table mode [] (fs ++ new ∷ []) child), (path-last fs new), new-events, (append_assoc (events_of table mode (path_of fs ++ entered_placement new) child) (events_of table mode (path_of fs) new) below), (old-events (λ prefix. Tick ∷ (events_of table mode (prefix ++ entered_placement new) child ++ events_of table mode prefix new)) goes), (room-more 0 (fs ++ new ∷ []) child room-new), (room-last 0 fs old room), (length-append fs (new ∷ [])))

-- ---- the frames in use, of which the deepest is written, and those behind it

module _ (walked : List Frame) (top depth : ℕ) (next : depth ≡ top + 1) (long : length walked ≡ depth) where
  pub walked-last : (d : Frame) → walked ≡ take top walked ++ get_or walked top d ∷ []
  walked-last d = search (rules, take_all, take-suc)

  module _ (new : Frame) (behind : List Frame) where
    abbrev written : List Frame
    written = set walked top new

    size : length written ≡ depth
    size = length-set walked top new ∙ long

    shape : written ≡ take top walked ++ new ∷ []
    shape = sym (take_all (top + 1) written (omega (arith, size, next))) ∙ take_more_set walked top new (omega (arith, long, next))

    pub written-top : take depth (written ++ behind) ≡ take top walked ++ new ∷ []
    written-top = take_at written behind depth size ∙ shape

    pub written-below : take top (written ++ behind) ≡ take top walked
    written-below = take-append-le top written behind (omega (arith, size, next)) ∙ take-set walked top new

    pub written-deeper : (d : Frame) → 0 < length behind → take (depth + 1) (written ++ behind) ≡ (take top walked ++ new ∷ []) ++ get_or behind 0 d ∷ []
    written-deeper d more = search (rules, size, (take-append-add written behind 1), (take-suc behind 0 d more), shape)

    pub written-child : (d e : Frame) → 0 < length behind → get_or (written ++ behind) depth e ≡ get_or behind 0 d
    written-child d e more =
        get_or-append_right written behind depth depth e size (omega arith)
        ∙ ap (λ k. get_or behind k e) (omega arith)
        ∙ first behind more
      where
        first : (l : List Frame) → 0 < length l → get_or l 0 e ≡ get_or l 0 d
        first [] more = absurd (omega arith)
        first (x ∷ xs) more = refl

module _ (table : Table) (mode : DropMode) (frames walked : List Frame) (same : walked ≡ frames) (depth : ℕ) (some : 0 < depth) (long : length walked ≡ depth) (d : Frame) where
  abbrev before_last : List Frame
  before_last = take (depth - 1) walked

  abbrev last : Frame
  last = get_or walked (depth - 1) d

  shape_of : frames ≡ before_last ++ last ∷ []
  shape_of = sym same ∙ walked-last walked (depth - 1) depth (omega (arith, some)) long d

  pub array-room : has_room 0 frames ≡ true → has_room 0 (before_last ++ last ∷ []) ≡ true
  array-room room = subst (λ l. has_room 0 l ≡ true) shape_of room

  -- there is room behind a frame for the placements that come after its next one
  pub array-deeper : has_room 0 frames ≡ true → last.setup.left + depth ≤ 20
  array-deeper room = search (rules, (room-last 0 before_last last (array-room room)), (length-take-le (depth - 1) walked))

  module _ (new : Frame) (behind : List Frame) (before now : ℕ) where
    pub array-try : (solved : Bool) → IsTry table mode (before_last ++ last ∷ []) (before_last ++ new ∷ []) before now solved →
        IsTry table mode frames (take depth (set walked (depth - 1) new ++ behind)) before now solved
    array-try solved tries = search (rules, shape_of, (written-top walked (depth - 1)))

    pub array-over : IsTry table mode (before_last ++ last ∷ []) before_last before now false →
        IsTry table mode frames (take (depth - 1) (set walked (depth - 1) new ++ behind)) before now false
    array-over tries = search (rules, shape_of, (written-below walked (depth - 1)))

    pub array-entered : (e : Frame) → 0 < length behind → IsTry table mode (before_last ++ last ∷ []) ((before_last ++ new ∷ []) ++ get_or behind 0 e ∷ []) before now false →
        IsTry table mode frames (take (depth + 1) (set walked (depth - 1) new ++ behind)) before now false
    array-entered e more tries = search (rules, shape_of, (written-deeper walked (depth - 1)))

-- what was found before stays found
pub finds-more : (first old new : List (List Placement)) (path : List Placement) (solved some : Bool) → first ≡ old → Finds old new path solved → solved ≡ true → some ≡ true → Finds first new path some
finds-more first old new path solved some same finds e f = search rules

-- where nothing is found what is to be found stays
pub finds-none : (old new : List (List Placement)) (path : List Placement) (solved : Bool) → solved ≡ false → Finds old new path solved → old ≡ new
finds-none old new path solved e finds = search rules

-- one more frame on the path
pub path-more : (frames : List Frame) (i : ℕ) (frame : Frame) → i < length frames → frame ≡ get_or frames i frame → path_of (take (i + 1) frames) ≡ path_of (take i frames) ++ entered_placement frame
path-more frames i frame within is =
    let next : i + 1 ≡ suc i = omega arith in
    search (rules, (take-suc frames i frame within), (path-last (take i frames) frame))
