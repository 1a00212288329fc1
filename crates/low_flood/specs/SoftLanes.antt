-- Floods of a soft drop on lanes.
use Rattle.std.specs.Prelude.{◌≡◌, ◌⊎◌, ℕ, ◌==◌, zero, suc, true, if◌then◌else◌}
use Rattle.lane_board.specs.Field.{Field, empty_field, intersection, difference, union}
use Rattle.srs.specs.declared.piece.Piece.{Piece}
use Rattle.srs.specs.declared.rotation.Rotation.{Rotation}
use Rattle.srs.specs.declared.rotation.Rotation.TheVariants.{Spawn, Right, Reverse, Left}
use Rattle.srs.specs.Canonical.{canonical_rotation}
use Rattle.srs.specs.Rotation.{rotation_index, clockwise_of, anticlockwise_of}
use Rattle.place_sets.specs.declared.spreading.Shifts.TheVariants.{All}
use Rattle.low_flood.specs.LaneFlood.{Lanes}
use Rattle.low_flood.specs.LaneMap.{free_lanes, resting_lanes}
use Rattle.low_flood.specs.LanePlaces.{has_own_cells, lane_pivots}
use Rattle.low_flood.specs.LaneTurns.{arrivals}
use Rattle.place_sets.specs.Shifts.{IsSpread}
use Rattle.low_flood.specs.SkyBoard.{sky_board}
use Rattle.place_sets.specs.States.{states_with}

-- the free lane states of each rotation, on the board of the canonical one
unfoldable pub free_boards : Piece → ℕ → Field → Lanes
free_boards piece N cells rotation = free_lanes piece (canonical_rotation piece rotation) N cells

-- the sky of each rotation
unfoldable pub skies : Piece → ℕ → Lanes → Lanes
skies piece N free rotation = sky_board piece (canonical_rotation piece rotation) N (free rotation)

-- the lane states, and those of a rotation whose canonical one is given
unfoldable pub with_rotation : Piece → Lanes → Rotation → Rotation → Field → Field
with_rotation piece S canonical rotation B =
    if rotation_index (canonical_rotation piece rotation) == rotation_index canonical then union B (S rotation) else B

-- the lane states of all rotations whose canonical one is given
unfoldable pub states_of_canonical : Piece → Lanes → Rotation → Field
states_of_canonical piece S canonical =
    with_rotation piece S canonical Left
    (with_rotation piece S canonical Reverse (with_rotation piece S canonical Right
    (with_rotation piece S canonical Spawn empty_field)))

-- all free lane states of a rotation that rest
unfoldable pub rests_in : ℕ → Lanes → Rotation → Field
rests_in N free rotation = resting_lanes N (free rotation) (free rotation)

-- the canonical placements in a rotation that rest and have one of the lane states
unfoldable pub soft_board : Piece → ℕ → Lanes → Lanes → Rotation → Field
soft_board piece N free S rotation =
    if has_own_cells piece rotation then lane_pivots piece rotation
    (intersection (rests_in N free rotation) (states_of_canonical piece S rotation))
    else empty_field

-- the rests of a canonical rotation that the lane states lack
unfoldable pub lacking : Piece → ℕ → Lanes → Lanes → Rotation → Field
lacking piece N free S rotation =
    if has_own_cells piece rotation then difference (rests_in N free rotation) (states_of_canonical piece S rotation)
    else empty_field

-- the lane states hold all rests
pub record HaveAllRests (piece : Piece) (N : ℕ) (free S : Lanes) : Type 0 where
  pub each : (rotation : Rotation) (x y : ℕ) → has_own_cells piece rotation ≡ true → rests_in N free rotation x y ≡ true
      → states_of_canonical piece S rotation x y ≡ true

-- each board is spread
pub record AreSpread (N : ℕ) (free S T : Lanes) : Type 0 where
  pub each : (rotation : Rotation) → IsSpread All N (free rotation) (S rotation) (T rotation)

-- one rotation has what both turns into it lead to, and is spread
pub record IsTurnedInto (piece : Piece) (N : ℕ) (free : Lanes) (to : Rotation) (S T : Lanes) : Type 0 where
  pub board : Field
  pub spread : IsSpread All N (free to) (union (S to)
      (union (arrivals piece (anticlockwise_of to) to N (free to) (S (anticlockwise_of to)) empty_field)
      (arrivals piece (clockwise_of to) to N (free to) (S (clockwise_of to)) empty_field))) board
  pub changed : T ≡ states_with S to board

-- so in each rotation, one after the other
pub record IsRound (piece : Piece) (N : ℕ) (free S T : Lanes) : Type 0 where
  pub one : Lanes
  pub two : Lanes
  pub three : Lanes
  pub spawn : IsTurnedInto piece N free Spawn S one
  pub right : IsTurnedInto piece N free Right one two
  pub reverse : IsTurnedInto piece N free Reverse two three
  pub left : IsTurnedInto piece N free Left three T

-- so many rounds from a start
abbrev pub Rounds : ℕ → Piece → ℕ → Lanes → Lanes → Lanes → Type 0
Rounds zero piece N free S T = S ≡ T
Rounds (suc n) piece N free S T = (U : Lanes) × (Rounds n piece N free S U × IsRound piece N free U T)

-- rounds from the skies, spread or not, until all rests are held or a round changes nothing
pub record IsSoftFlood (piece : Piece) (N : ℕ) (free T : Lanes) : Type 0 where
  pub start : Lanes
  pub begun : (start ≡ skies piece N free) ⊎ AreSpread N free (skies piece N free) start
  pub rounds : ℕ
  pub reached : Rounds rounds piece N free start T
  pub ends : HaveAllRests piece N free T ⊎ IsRound piece N free T T
