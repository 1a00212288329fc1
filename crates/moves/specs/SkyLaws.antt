-- The laws of states above the stack, by the table of the Super Rotation System.
use Rattle.std.specs.Prelude.{◌≡◌, ℕ, ◌+◌, ◌≤◌, ◌≤ℤ◌, ◌↔◌, true, pos, Some}
use Rattle.lane_board.specs.Field.{Field}
use Rattle.srs.specs.declared.placement.Placement.{Placement}
use Rattle.srs.specs.Kick.{Table, srs_table}
use Rattle.well.specs.Free.{is_free}
use Rattle.well.specs.LockLaws.{LiesBelow}
use Rattle.moves.specs.declared.key.Key.{Key}
use Rattle.moves.specs.declared.key.Key.TheVariants.{Clockwise, Anti}
use Rattle.moves.specs.declared.key.DropMode.{DropMode}
use Rattle.moves.specs.declared.key.DropMode.TheVariants.{Soft, Hard}
use Rattle.moves.specs.Place.{IsPlace}
use Rattle.moves.specs.Step.{step_of}
use Rattle.moves.specs.Height.{upright}
use Rattle.moves.specs.Sky.{IsUnderSky}
use Rattle.moves.specs.RestingStates.{IsKeyed, IsRestWhere, AllRestsAreKeyed, Any}
use Rattle.moves.specs.Window.{IsWindowPlace}

-- the key makes a move, and the state that it leads to has the same upright height
pub record KeepsHeight (F : Field) (state : Placement) (key : Key) : Type 0 where
  pub next : Placement
  pub leads_there : step_of srs_table F state key ≡ Some next
  pub same_height : upright next ≡ upright state

-- two rows above the stack and up to the spawn's height both turns succeed and keep the upright height
abbrev pub TurnsKeepTheHeight : Type 0
TurnsKeepTheHeight =
    (F : Field) (r : ℕ) (state : Placement) → LiesBelow F r → is_free F state ≡ true →
    pos (r + 2) ≤ℤ upright state → upright state ≤ℤ pos 20 →
    KeepsHeight F state Clockwise × KeepsHeight F state Anti

-- with soft drop keys lead to each state under the sky that is no higher than the spawn
abbrev pub SkyIsReached : Type 0
SkyIsReached =
    (F : Field) (r : ℕ) (state : Placement) → LiesBelow F r → r ≤ 18 →
    IsUnderSky F state → upright state ≤ℤ pos 20 → IsKeyed srs_table F Soft state

-- with soft drop the places are the resting states to which keys lead
abbrev pub PlacesAreRests : Type 0
PlacesAreRests =
    (table : Table) (F : Field) (q : Placement) →
    IsPlace table F Soft q ↔ IsRestWhere F (IsKeyed table F Soft) q

-- so where keys lead to all resting states, these are the places
abbrev pub AllRestsArePlaces : Type 0
AllRestsArePlaces =
    (table : Table) (F : Field) (q : Placement) → AllRestsAreKeyed table F Soft q →
    (IsPlace table F Soft q ↔ IsRestWhere F Any q)

-- with hard drop the places are the resting states under the sky
abbrev pub HardPlacesLieUnderTheSky : Type 0
HardPlacesLieUnderTheSky =
    (F : Field) (r : ℕ) (q : Placement) → LiesBelow F r → r ≤ 18 →
    (IsPlace srs_table F Hard q ↔ IsRestWhere F (IsUnderSky F) q)

-- the places of the window are the places, from wherever at or above the stack it begins
abbrev pub WindowLosesNothing : Type 0
WindowLosesNothing =
    (F : Field) (r : ℕ) (mode : DropMode) (q : Placement) → LiesBelow F r → r ≤ 8 →
    (IsWindowPlace F r mode q ↔ IsPlace srs_table F mode q)
