-- Keys in the open, where nothing but the sides of the well stops a state.
use Rattle.std.specs.Prelude.{ℕ, zero, suc, ◌-◌, Bool, true, false, ◌&&◌, ◌||◌, ◌==◌, not, nat_lt, ℤ, pos, ◌+ℤ◌, if◌then◌else◌, Option, Some, None, List, [], ◌∷◌, ◌++◌, option_and_then, fold}
use Rattle.std.specs.Ordering.{int_eq}
use Rattle.srs.specs.declared.piece.Piece.{Piece}
use Rattle.srs.specs.declared.rotation.Rotation.{Rotation}
use Rattle.srs.specs.declared.rotation.Rotation.TheVariants as Rotations
use Rattle.srs.specs.Cells.{Cell, minus}
use Rattle.srs.specs.Kick.{srs_table, kicks_of}
use Rattle.srs.specs.Rotation.{clockwise_of, anticlockwise_of, rotation_index}
use Rattle.moves.specs.declared.key.Key.{Key}
use Rattle.moves.specs.declared.key.Key.TheVariants.{Left, Right, Down, Clockwise, Anti}
use Rattle.moves.specs.Height.{rise, fits_column}

-- a rotation and a column, at some upright height
abbrev pub Spot : Type 0
Spot = Rotation × ℕ

-- the spot in a column, where that is one of the well
abbrev pub spot_in : Piece → Rotation → ℤ → Option Spot
spot_in piece rotation (pos x) = Some (rotation, x)
spot_in piece rotation _ = None

-- the first of these kicks that leaves the piece within the columns
abbrev pub first_fitting : Piece → Rotation → ℤ → List Cell → Option Cell
first_fitting piece to x [] = None
first_fitting piece to x (kick ∷ kicks) = if fits_column piece to (x +ℤ kick.0) then Some kick
    else first_fitting piece to x kicks

-- the kick, where it keeps the upright height
abbrev pub level_kick : Piece → Rotation → Rotation → Cell → Option Cell
level_kick piece from to kick = if int_eq (kick.1 +ℤ rise piece to) (rise piece from) then Some kick else None

abbrev pub open_turn : Piece → Rotation → Rotation → ℕ → Option Cell
open_turn piece from to x = option_and_then (level_kick piece from to)
    (first_fitting piece to (pos x) (kicks_of srs_table piece from to))

abbrev pub open_shift : Piece → Rotation → ℤ → Option Spot
open_shift piece rotation x = if fits_column piece rotation x then spot_in piece rotation x else None

-- what a key does in the open
abbrev pub open_key : Piece → Spot → Key → Option Spot
open_key piece spot Left = open_shift piece spot.0 (pos spot.1 +ℤ minus 1)
open_key piece spot Right = open_shift piece spot.0 (pos spot.1 +ℤ pos 1)
open_key piece spot Down = None
open_key piece spot Clockwise = option_and_then
    (λ (kick : Cell). spot_in piece (clockwise_of spot.0) (pos spot.1 +ℤ kick.0))
    (open_turn piece spot.0 (clockwise_of spot.0) spot.1)
open_key piece spot Anti = option_and_then
    (λ (kick : Cell). spot_in piece (anticlockwise_of spot.0) (pos spot.1 +ℤ kick.0))
    (open_turn piece spot.0 (anticlockwise_of spot.0) spot.1)

abbrev pub open_led : Piece → Option Spot → List Key → Option Spot
open_led piece start keys = fold (λ reached key. option_and_then (λ spot. open_key piece spot key) reached) start keys

abbrev pub repeated : Key → ℕ → List Key
repeated key zero = []
repeated key (suc n) = key ∷ repeated key n

abbrev pub turns_to : Rotation → List Key
turns_to Rotations.Spawn = []
turns_to Rotations.Right = Clockwise ∷ []
turns_to Rotations.Reverse = Clockwise ∷ Clockwise ∷ []
turns_to Rotations.Left = Anti ∷ []

abbrev pub sideways_to : ℕ → ℕ → List Key
sideways_to from to = if nat_lt to from then repeated Left (from - to) else repeated Right (to - from)

abbrev pub column_of : Option Spot → ℕ
column_of None = 0
column_of (Some spot) = spot.1

-- keys from the spawn's rotation and column: first the turns, then sideways
abbrev pub path : Piece → Rotation → ℕ → List Key
path piece rotation x = turns_to rotation ++ sideways_to
    (column_of (open_led piece (Some (Rotations.Spawn, 4)) (turns_to rotation))) x

abbrev pub is_spot : Rotation → ℕ → Option Spot → Bool
is_spot rotation x None = false
is_spot rotation x (Some spot) = rotation_index spot.0 == rotation_index rotation && spot.1 == x

-- the keys lead there
abbrev pub path_leads : Piece → Rotation → ℕ → Bool
path_leads piece rotation x = not (fits_column piece rotation (pos x))
    || is_spot rotation x (open_led piece (Some (Rotations.Spawn, 4)) (path piece rotation x))

abbrev pub is_some : Option Spot → Bool
is_some None = false
is_some (Some spot) = true

-- both turns succeed and keep the upright height
abbrev pub turns_stay : Piece → Rotation → ℕ → Bool
turns_stay piece rotation x = not (fits_column piece rotation (pos x))
    || (is_some (open_key piece (rotation, x) Clockwise) && is_some (open_key piece (rotation, x) Anti))
