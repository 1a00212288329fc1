-- Free states that cannot move down, and the placements with their cells.
use Rattle.std.specs.Prelude.{◌≡◌, IsTrue, true, false, Some, List, All}
use Rattle.lane_board.specs.Field.{Field}
use Rattle.srs.specs.declared.placement.Placement.{Placement}
use Rattle.srs.specs.Canonical.{IsCanonical}
use Rattle.srs.specs.Kick.{Table}
use Rattle.srs.specs.SameCells.{HasSameCells}
use Rattle.well.specs.Free.{is_free_at, is_free}
use Rattle.moves.specs.declared.key.Key.{Key}
use Rattle.moves.specs.declared.key.DropMode.{DropMode}
use Rattle.moves.specs.Keys.{allows}
use Rattle.moves.specs.Leads.{state_after}
use Rattle.moves.specs.Rest.{lowered}

-- the state is free, and one row lower it is not
pub record IsResting (F : Field) (state : Placement) : Type 0 where
  pub free : is_free F state ≡ true
  pub blocked : is_free_at F state.piece state.rotation (lowered state 1) ≡ false

-- allowed keys lead to the state from the spawn
pub record IsKeyed (table : Table) (F : Field) (mode : DropMode) (state : Placement) : Type 0 where
  pub keys : List Key
  pub allowed : All (λ key. IsTrue (allows mode key)) keys
  pub leads_there : state_after table F state.piece keys ≡ Some state

-- the placement is canonical, and has the cells of a resting state of which this holds
pub record IsRestWhere (F : Field) (P : Placement → Type 0) (placement : Placement) : Type 0 where
  pub canonical : IsCanonical placement
  pub state : Placement
  pub rests : IsResting F state
  pub holds : P state
  pub same_cells : HasSameCells state placement

-- each resting state of the placement's piece is one to which keys lead
pub record AllRestsAreKeyed (table : Table) (F : Field) (mode : DropMode) (placement : Placement) : Type 0 where
  pub each : (state : Placement) → state.piece ≡ placement.piece → IsResting F state → IsKeyed table F mode state

abbrev pub Any : Placement → Type 0
Any state = Unit {0}
