-- Runs of placements, each of which removes a row.
use Rattle.std.specs.Prelude.{◌≤◌, List, [], ◌∷◌}
use Rattle.lane_board.specs.Field.{Field}
use Rattle.srs.specs.declared.placement.Placement.{Placement}
use Rattle.srs.specs.Kick.{Table}
use Rattle.well.specs.Lock.{locked, rows_removed}
use Rattle.moves.specs.declared.key.DropMode.{DropMode}
use Rattle.moves.specs.Place.{IsPlace}

-- each placement is reached by legal keys in the field before it, and removes at least one row
abbrev pub Runs : Table → DropMode → Field → List Placement → Type 0
Runs table mode F [] = Unit {0}
Runs table mode F (placement ∷ rest) =
    IsPlace table F mode placement × (1 ≤ rows_removed F placement) × Runs table mode (locked F placement) rest
