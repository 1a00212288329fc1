-- What `combo` does: it finds the longest run of its field.
use Rattle.std.specs.Prelude.{true}
use Rattle.lane_board.specs.Field.{Field}
use Rattle.pc_settings.specs.Request.{ComboRequest}
use Rattle.pc_source.specs.FieldTask.{field_task, its_field}
use Rattle.pc_source.specs.Task.{Task, nothing}
use Rattle.pc_source.specs.Work.{floods_after_memory}
use Rattle.pc_combo.specs.Faults.{run_fault}
use Rattle.pc_combo.specs.Output.{IsRunFor}

-- what is left of it once its field is had
abbrev pub run_task : ComboRequest → Field → Task
run_task request F = record {
  needs = nothing;
  memory_first = true;
  fault = λ bytes. run_fault request F;
  IsOutput = λ bytes floods output. IsRunFor request F output;
  IsWork = floods_after_memory;
}

abbrev pub combo_task : ComboRequest → Task
combo_task request = field_task its_field request.field request.page true (run_task request)
