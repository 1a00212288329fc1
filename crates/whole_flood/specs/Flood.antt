-- What a flood holds: the states to which allowed keys lead from a set of states, where the free pivots are given.
use Rattle.std.specs.Prelude.{◌≡◌, ◌↔◌, true, IsTrue, pos, if◌then◌else◌, Option, Some, None, List, [], ◌∷◌, All}
use Rattle.srs.specs.declared.piece.Piece.{Piece}
use Rattle.srs.specs.declared.rotation.Rotation.{Rotation}
use Rattle.srs.specs.declared.placement.Placement.{Placement}
use Rattle.srs.specs.Cells.{Cell, minus, moved, pivot_of}
use Rattle.srs.specs.Rotation.{clockwise_of, anticlockwise_of}
use Rattle.srs.specs.Kick.{Table}
use Rattle.moves.specs.declared.key.Key.{Key}
use Rattle.moves.specs.declared.key.Key.TheVariants.{Left, Right, Down, Clockwise, Anti}
use Rattle.moves.specs.declared.key.DropMode.{DropMode}
use Rattle.moves.specs.declared.key.DropMode.TheVariants.{Soft, Hard}
use Rattle.moves.specs.Keys.{allows}
use Rattle.moves.specs.Step.{state_at, kicked}
use Rattle.moves.specs.Walk.{led}
use Rattle.place_sets.specs.States.{States, Includes, has_state, has_pivot}
use Rattle.place_sets.specs.declared.spreading.Shifts.{Shifts}
use Rattle.place_sets.specs.declared.spreading.Shifts.TheVariants as Shift

-- the state at the first of these pivots that is free, or nothing
unfoldable pub first_in : States → Piece → Rotation → List Cell → Option Placement
first_in free piece rotation [] = None
first_in free piece rotation (pivot ∷ pivots) =
    if has_pivot free rotation pivot then state_at piece rotation pivot else first_in free piece rotation pivots

-- the state with its pivot moved, where that is free
unfoldable pub shifted_in : States → Placement → Cell → Option Placement
shifted_in free state move = first_in free state.piece state.rotation (moved (pivot_of state) move ∷ [])

-- the state in another rotation, by the first test that makes it free
unfoldable pub turned_in : Table → States → Placement → Rotation → Option Placement
turned_in table free state to = first_in free state.piece to (kicked table state to)

-- the state to which a key leads, or nothing, where the states that are free are given
abbrev pub step_in : Table → States → Placement → Key → Option Placement
step_in table free state Left = shifted_in free state (minus 1, pos 0)
step_in table free state Right = shifted_in free state (pos 1, pos 0)
step_in table free state Down = shifted_in free state (pos 0, minus 1)
step_in table free state Clockwise = turned_in table free state (clockwise_of state.rotation)
step_in table free state Anti = turned_in table free state (anticlockwise_of state.rotation)

-- the moves within a rotation that a drop mode allows
abbrev pub shifts_in : DropMode → Shifts
shifts_in Soft = Shift.All
shifts_in Hard = Shift.Sideways

-- what a flood goes by: a table of offsets, the free states of a piece, and a drop mode
pub record Ground : Type 0 where
  pub table : Table
  pub piece : Piece
  pub mode : DropMode
  pub free : States

-- these keys, each allowed and each making a move, lead to the state from one of the start states
pub record IsReached (ground : Ground) (start : States) (state : Placement) : Type 0 where
  pub from : Placement
  pub kind : from.piece ≡ ground.piece
  pub starts : has_state start from ≡ true
  pub keys : List Key
  pub allowed : All (λ key. IsTrue (allows ground.mode key)) keys
  pub leads : led (step_in ground.table ground.free) (Some from) keys ≡ Some state

-- all states of the set are reached
pub record AreReached (ground : Ground) (start S : States) : Type 0 where
  pub reached : (state : Placement) → state.piece ≡ ground.piece → has_state S state ≡ true
      → IsReached ground start state

-- S has the states to which an allowed key leads from the state
pub record IsLeftWithin (ground : Ground) (S : States) (state : Placement) : Type 0 where
  pub covered : (key : Key) (next : Placement) → IsTrue (allows ground.mode key)
      → step_in ground.table ground.free state key ≡ Some next → has_state S next ≡ true

-- one rotation is settled: nothing is lost, what is new is reached where all was, and the states of the rotation lead
-- to none that is missing
pub record IsSettled (ground : Ground) (rotation : Rotation) (before after : States) : Type 0 where
  pub kept : Includes after before
  pub sound : (start : States) → AreReached ground start before → AreReached ground start after
  pub covers : (state : Placement) → state.piece ≡ ground.piece → state.rotation ≡ rotation → has_state after state
      ≡ true → IsLeftWithin ground after state

-- the set has the states that are reached, and no others
pub record IsFlood (ground : Ground) (start result : States) : Type 0 where
  pub exact : (state : Placement) → state.piece ≡ ground.piece → (has_state result state ≡ true)
      ↔ IsReached ground start state
