-- How many floods `cover` may make.
use Rattle.std.specs.Prelude.{◌≡◌, ℕ, ◌≤◌, ◌/◌, List, length, sum_by, Ok}
use Rattle.lane_board.specs.Field.{Field}
use Rattle.srs.specs.declared.placement.Placement.{Placement}
use Rattle.well.specs.Counts.{empties_below}
use Rattle.pc_settings.specs.Request.{FieldRequest}
use Rattle.pc_cover.specs.Given.{given_in}

-- about this field, at most one for each placement of the sequences that the lines of the source spell
pub record IsCoveringWork (request : FieldRequest) (F : Field) (bytes : List ℕ) (floods : ℕ) : Type 0 where
  pub sequences : List (List Placement)
  pub given : given_in (empties_below F request.height / 4) bytes ≡ Ok sequences
  pub few : floods ≤ sum_by length sequences
