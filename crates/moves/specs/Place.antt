-- The placements that legal keys reach.
use Rattle.std.specs.Prelude.{◌≡◌, IsTrue, Some, List, All}
use Rattle.lane_board.specs.Field.{Field}
use Rattle.srs.specs.declared.placement.Placement.{Placement}
use Rattle.srs.specs.Canonical.{IsCanonical}
use Rattle.srs.specs.Kick.{Table}
use Rattle.srs.specs.SameCells.{HasSameCells}
use Rattle.moves.specs.declared.key.Key.{Key}
use Rattle.moves.specs.declared.key.DropMode.{DropMode}
use Rattle.moves.specs.Keys.{allows}
use Rattle.moves.specs.Leads.{state_after}
use Rattle.moves.specs.Rest.{IsRest}

-- these keys, each allowed and each making a move, lead from the spawn of the placement's piece to a state whose rest
-- has the placement's cells
pub record LeadsToRest (table : Table) (F : Field) (mode : DropMode) (keys : List Key)
    (placement : Placement) : Type 0 where
  pub allowed : All (λ key. IsTrue (allows mode key)) keys
  pub state : Placement
  pub reached : state_after table F placement.piece keys ≡ Some state
  pub rest : Placement
  pub rests : IsRest F state rest
  pub same_cells : HasSameCells rest placement

-- the placement is canonical, and some keys lead to it
pub record IsPlace (table : Table) (F : Field) (mode : DropMode) (placement : Placement) : Type 0 where
  pub canonical : IsCanonical placement
  pub keys : List Key
  pub led_to : LeadsToRest table F mode keys placement
