-- What `cover` writes.
use Rattle.std.specs.Prelude.{◌≡◌, ℕ, ◌/◌, List, Ok}
use Rattle.lane_board.specs.Field.{Field}
use Rattle.srs.specs.declared.placement.Placement.{Placement}
use Rattle.well.specs.Counts.{empties_below}
use Rattle.queue_pattern.specs.Pattern.{elements_of}
use Rattle.queue_pattern.specs.Queues.{queues}
use Rattle.problem.specs.declared.problem.Problem.{Problem}
use Rattle.cover.specs.Covered.{IsCoveredList}
use Rattle.pc_settings.specs.Request.{FieldRequest}
use Rattle.pc_source.specs.Problem.{IsProblemOf}
use Rattle.pc_cover.specs.Given.{given_in}
use Rattle.pc_cover.specs.Lines.{cover_form}

-- the lines about the queues of the problem that is asked about this field, by the rising list of those that these
-- sequences cover
pub record IsCoverFor (request : FieldRequest) (F : Field) (sequences : List (List Placement))
    (output : List ℕ) : Type 0 where
  pub problem : Problem
  pub named : IsProblemOf request F problem
  pub numbers : List ℕ
  pub covered : IsCoveredList problem sequences numbers
  pub lines : output ≡ cover_form (queues (elements_of problem.pattern)) numbers

-- of the sequences of the needed length that the lines of the source spell
pub record IsCoveringOf (request : FieldRequest) (F : Field) (bytes output : List ℕ) : Type 0 where
  pub sequences : List (List Placement)
  pub given : given_in (empties_below F request.height / 4) bytes ≡ Ok sequences
  pub covered : IsCoverFor request F sequences output
