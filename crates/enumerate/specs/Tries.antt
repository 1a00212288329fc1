-- What a try at a frame does to the events that are still to come.
use Rattle.std.specs.Prelude.{◌≡◌, ℕ, ◌+◌, true, false, Option, Some, None, List, [], ◌∷◌, ◌++◌}
use Rattle.srs.specs.declared.piece.Piece.{Piece}
use Rattle.srs.specs.declared.placement.Placement.{Placement}
use Rattle.srs.specs.Kick.{Table}
use Rattle.srs.specs.Rotation.{rotation_index}
use Rattle.lane_board.specs.Words.{cells_of_words}
use Rattle.moves.specs.declared.key.DropMode.{DropMode}
use Rattle.place_sets.specs.declared.low_held.LowPlaces.{LowPlaces}
use Rattle.place_sets.specs.LowPlaces.{holds}
use Rattle.enumerate.specs.declared.frame.Frame.{Frame}
use Rattle.enumerate.specs.declared.setup.Setup.{Setup}
use Rattle.enumerate.specs.declared.trying.Tried.{Tried}
use Rattle.enumerate.specs.declared.trying.Tried.TheVariants.{Passed, Flooded, Entered, Full, Over}
use Rattle.well.specs.LockLaws.{is_below}
use Rattle.well.specs.Well.{filled}
use Rattle.enumerate.specs.Standing.{may_lock}
use Rattle.enumerate.specs.SearchState.{after_of, is_live}
use Rattle.enumerate.specs.Events.{Event, Tick, Flood, Found, entered, enter}
use Rattle.enumerate.specs.Setups.{LeadsOn, state_of}
use Rattle.enumerate.specs.Frames.{entered_placement, events_of}

-- what there is to do at a placement, whatever the rules, and after any prefix
pub record EntersAs (setup : Setup) (q : Placement)
    (events : Table → DropMode → List Placement → List Event) : Type 0 where
  pub same : (table : Table) (mode : DropMode) (prefix : List Placement) →
      entered (enter setup.left) prefix (state_of table mode setup) q ≡ events table mode (prefix ++ q ∷ [])

-- nothing is to be done at placements of a piece with these pivots
pub record AreDead (setup : Setup) (piece : Piece) (pivots : List ℕ) : Type 0 where
  pub dead : (q : Placement) → q.piece ≡ piece →
      may_lock (filled setup.well) piece q ≡ true → is_below setup.rows q ≡ true →
      cells_of_words pivots (rotation_index q.rotation) q.x q.y ≡ true → EntersAs setup q (λ table mode prefix. [])

-- after places of which none has these pivots the state is live
abbrev pub AreLiveBut : Setup → LowPlaces → List ℕ → Type 0
AreLiveBut setup places pivots = (q : Placement) → holds places q ≡ true →
    cells_of_words pivots (rotation_index q.rotation) q.x q.y ≡ false → LeadsOn setup q

-- the frame after a placement, at which nothing was tried
pub record IsChild (setup : Setup) (q : Placement) (child : Frame) : Type 0 where
  pub left : child.setup.left + 1 ≡ setup.left
  pub below : is_below setup.rows q ≡ true
  pub state : (table : Table) (mode : DropMode) →
      state_of table mode child.setup ≡ after_of (state_of table mode setup) q
  pub live : (table : Table) (mode : DropMode) → is_live child.setup.left (state_of table mode child.setup) ≡ true
  pub tried : child.tried ≡ 0
  pub places : child.places ≡ None

-- what entering a placement came to, and the frame after it where there is one
abbrev pub Enters : Setup → Placement → Frame → Tried → Type 0
Enters setup q child Passed = EntersAs setup q (λ table mode prefix. Tick ∷ [])
Enters setup q child Flooded = ⊥
Enters setup q child Entered =
    EntersAs setup q (λ table mode prefix. Tick ∷ events_of table mode prefix child) × IsChild setup q child
Enters setup q child Full = EntersAs setup q (λ table mode prefix. Found prefix ∷ [])
Enters setup q child Over = ⊥

-- what there was to do at a frame is what there is at this placement, where there is one, and then what is left
abbrev pub GoesOn : Frame → Frame → Option Placement → Type 0
GoesOn old new None = (table : Table) (mode : DropMode) (prefix : List Placement) →
    events_of table mode prefix old ≡ events_of table mode prefix new
GoesOn old new (Some q) = (table : Table) (mode : DropMode) (prefix : List Placement) →
    events_of table mode prefix old
    ≡ entered (enter new.setup.left) prefix (state_of table mode new.setup) q ++ events_of table mode prefix new

-- what there is to do at a frame, after any prefix
pub record GoesAs (table : Table) (mode : DropMode) (frame : Frame)
    (events : List Placement → List Event) : Type 0 where
  pub same : (prefix : List Placement) → events_of table mode prefix frame ≡ events prefix

-- what a try came to, and the frame after the placement where one was entered
abbrev pub Tries : Table → DropMode → Frame → Frame → Frame → Tried → ℕ → ℕ → Type 0
Tries table mode old new child Passed before now =
    GoesAs table mode old (λ prefix. Tick ∷ events_of table mode prefix new) × (now ≡ before)
Tries table mode old new child Flooded before now =
    GoesAs table mode old (λ prefix. Flood ∷ events_of table mode prefix new) × (now ≡ before + 1)
Tries table mode old new child Entered before now =
    GoesAs table mode old (λ prefix. Tick ∷ (events_of table mode (prefix ++ entered_placement new) child
    ++ events_of table mode prefix new))
    × (now ≡ before) × (child.setup.left + 1 ≡ old.setup.left)
Tries table mode old new child Full before now =
    GoesAs table mode old (λ prefix. Found (prefix ++ entered_placement new) ∷ events_of table mode prefix new)
    × (now ≡ before)
Tries table mode old new child Over before now = GoesAs table mode old (λ prefix. Tick ∷ []) × (now ≡ before)
