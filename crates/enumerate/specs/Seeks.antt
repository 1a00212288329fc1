-- What passing by all that comes before a given sequence does to the events that are still to come.
use Rattle.std.specs.Prelude.{◌≡◌, ℕ, suc, ◌+◌, ◌<◌, ◌≤◌, Bool, true, false, IsTrue, None, List, [], ◌∷◌, ◌++◌, take, slice_index_or}
use Rattle.srs.specs.declared.placement.Placement.{Placement}
use Rattle.srs.specs.Kick.{Table}
use Rattle.moves.specs.declared.key.DropMode.{DropMode}
use Rattle.enumerate.specs.declared.frame.Frame.{Frame}
use Rattle.enumerate.specs.SearchState.{is_live}
use Rattle.enumerate.specs.Events.{Event, found, floods, sought}
use Rattle.enumerate.specs.Frames.{events_of, has_room, path_of, stacked, entered_placement}
use Rattle.enumerate.specs.Setups.{state_of}

-- nothing was tried at the frame, and it is worth a look
pub record IsFresh (table : Table) (mode : DropMode) (frame : Frame) : Type 0 where
  pub tried : frame.tried ≡ 0
  pub places : frame.places ≡ None
  pub live : is_live frame.setup.left (state_of table mode frame.setup) ≡ true

-- nothing was found on the way, and the floods on the way are counted
pub record SkipsTo (old new : List Event) (before now : ℕ) : Type 0 where
  pub same : found old ≡ found new
  pub counted : floods old + before ≡ floods new + now
  pub fewer : floods new ≤ floods old

-- after any prefix, whatever of the given sequence follows: where it is true the child is the frame after the placement
abbrev pub Skips : Table → DropMode → Frame → Frame → Placement → Frame → Bool → ℕ → ℕ → Type 0
Skips table mode old new q child false before now =
    (prefix given : List Placement) →
    SkipsTo (sought (suc old.setup.left) prefix (state_of table mode old.setup) (q ∷ given))
    (events_of table mode prefix new) before now
Skips table mode old new q child true before now =
    ((prefix given : List Placement) → SkipsTo
    (sought (suc old.setup.left) prefix (state_of table mode old.setup) (q ∷ given))
    (sought (suc child.setup.left) (prefix ++ entered_placement new) (state_of table mode child.setup) given
    ++ events_of table mode prefix new) before now)
    × IsFresh table mode child × (child.setup.left + 1 ≡ old.setup.left)

-- what is to be done from a frame on, where this is still to be passed by there
abbrev pub sought_at : Table → DropMode → List Frame → ℕ → List Placement → Frame → List Event
sought_at table mode frames top given d =
    sought (suc (slice_index_or frames top d).setup.left) (path_of (take top frames))
    (state_of table mode (slice_index_or frames top d).setup) given
    ++ stacked table mode [] (take top frames)

-- one more frame is in use, and at it one placement less is to be passed by
pub record IsDeeper (table : Table) (mode : DropMode) (old new : List Frame) (top : ℕ) (q : Placement)
    (before now : ℕ) : Type 0 where
  pub within : top + 1 < 20
  pub room : IsTrue (has_room 0 (take (top + 1 + 1) new))
  pub fresh : (d : Frame) → IsFresh table mode (slice_index_or new (top + 1) d)
  pub skips : (given : List Placement) (d : Frame) →
      SkipsTo (sought_at table mode old top (q ∷ given) d) (sought_at table mode new (top + 1) given d) before now

-- the same frames are in use, and all that comes before is passed by
pub record IsThere (table : Table) (mode : DropMode) (old new : List Frame) (top : ℕ) (q : Placement)
    (before now : ℕ) : Type 0 where
  pub room : IsTrue (has_room 0 (take (top + 1) new))
  pub skips : (given : List Placement) (d : Frame) →
      SkipsTo (sought_at table mode old top (q ∷ given) d) (stacked table mode [] (take (top + 1) new)) before now

abbrev pub IsSought : Table → DropMode → List Frame → List Frame → ℕ → Placement → Bool → ℕ → ℕ → Type 0
IsSought table mode old new top q true before now = IsDeeper table mode old new top q before now
IsSought table mode old new top q false before now = IsThere table mode old new top q before now
