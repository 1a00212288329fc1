-- What one key does to a state, by a table of offsets.
use Rattle.std.specs.Prelude.{◌≤ℤ◌, pos, if◌then◌else◌, Option, Some, None, List, [], ◌∷◌, map}
use Rattle.lane_board.specs.Field.{Field}
use Rattle.srs.specs.declared.piece.Piece.{Piece}
use Rattle.srs.specs.declared.rotation.Rotation.{Rotation}
use Rattle.srs.specs.declared.offset.Offset.{Offset}
use Rattle.srs.specs.declared.placement.Placement.{Placement}
use Rattle.srs.specs.Cells.{Cell, minus, moved, pivot_of}
use Rattle.srs.specs.Kick.{Table, kicks_of}
use Rattle.srs.specs.Rotation.{clockwise_of, anticlockwise_of}
use Rattle.well.specs.Free.{is_free_at}
use Rattle.moves.specs.declared.key.Key.{Key}
use Rattle.moves.specs.declared.key.Key.TheVariants.{Left, Right, Down, Clockwise, Anti}

-- the state with its pivot at a cell
abbrev pub state_at : Piece → Rotation → Cell → Option Placement
state_at piece rotation (pos x, pos y) = Some (record { piece = piece; rotation = rotation; x = x; y = y })
state_at piece rotation _ = None

-- the state at the first of these pivots that makes it free, or nothing
unfoldable pub first_free : Field → Piece → Rotation → List Cell → Option Placement
first_free F piece rotation [] = None
first_free F piece rotation (pivot ∷ pivots) =
    if is_free_at F piece rotation pivot then state_at piece rotation pivot else first_free F piece rotation pivots

-- a move by at most six columns and six rows, as the difference of two small ones is
pub record IsShort (change : Offset) : Type 0 where
  pub left : minus 6 ≤ℤ change.dx
  pub right : change.dx ≤ℤ pos 6
  pub down : minus 6 ≤ℤ change.dy
  pub up : change.dy ≤ℤ pos 6

-- the pivots that the tests of a turn try
abbrev pub kicked : Table → Placement → Rotation → List Cell
kicked table state to = map (moved (pivot_of state)) (kicks_of table state.piece state.rotation to)

-- the state with its pivot moved, where that is free
unfoldable pub shifted : Field → Placement → Cell → Option Placement
shifted F state move = first_free F state.piece state.rotation (moved (pivot_of state) move ∷ [])

-- the state in another rotation, by the first test that makes it free
unfoldable pub turned : Table → Field → Placement → Rotation → Option Placement
turned table F state to = first_free F state.piece to (kicked table state to)

-- the state to which a key leads, or nothing
abbrev pub step_of : Table → Field → Placement → Key → Option Placement
step_of table F state Left = shifted F state (minus 1, pos 0)
step_of table F state Right = shifted F state (pos 1, pos 0)
step_of table F state Down = shifted F state (pos 0, minus 1)
step_of table F state Clockwise = turned table F state (clockwise_of state.rotation)
step_of table F state Anti = turned table F state (anticlockwise_of state.rotation)
