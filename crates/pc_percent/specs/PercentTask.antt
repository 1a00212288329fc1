-- What `percent` does: it answers what is asked about its field.
use Rattle.std.specs.Prelude.{ℕ, true, List, Option}
use Rattle.lane_board.specs.Field.{Field}
use Rattle.pc_faults.specs.declared.fault.Fault.{Fault}
use Rattle.pc_settings.specs.Request.{PercentRequest}
use Rattle.pc_source.specs.FieldTask.{field_task, its_field}
use Rattle.pc_source.specs.Task.{Task, nothing}
use Rattle.pc_source.specs.Work.{any_floods}
use Rattle.pc_source.specs.ProblemFaults.{problem_fault}
use Rattle.pc_percent.specs.Output.{IsAnsweredFor}

-- what is left of it once its field is had
abbrev pub asked_task : PercentRequest → Field → Task
asked_task request F = record {
  needs = nothing;
  memory_first = true;
  fault = λ bytes. problem_fault request.common F;
  IsOutput = λ bytes floods output. IsAnsweredFor request F output;
  IsWork = any_floods;
}

abbrev pub percent_task : PercentRequest → Task
percent_task request =
    field_task its_field request.common.field request.common.page true (asked_task request)

-- the first fault: that of the text of the field, and then that of the problem
abbrev pub percent_fault : PercentRequest → List ℕ → Option Fault
percent_fault request = (percent_task request).fault
