-- What `path` does: it lists what is asked about its field.
use Rattle.std.specs.Prelude.{ℕ, List, Option}
use Rattle.lane_board.specs.Field.{Field}
use Rattle.pc_faults.specs.declared.fault.Fault.{Fault}
use Rattle.pc_settings.specs.Request.{PathRequest}
use Rattle.pc_source.specs.FieldTask.{field_task, its_field}
use Rattle.pc_source.specs.Task.{Task, nothing}
use Rattle.pc_path.specs.Faults.{listing_fault}
use Rattle.pc_path.specs.Formats.{takes_memory_first}
use Rattle.pc_path.specs.Output.{IsReportOf}
use Rattle.pc_path.specs.Work.{IsListingWork}

-- what is left of it once its field is had
abbrev pub listing_task : PathRequest → Field → Task
listing_task request F = record {
  needs = nothing;
  memory_first = takes_memory_first request.format;
  fault = λ bytes. listing_fault request F;
  IsOutput = λ bytes floods output. IsReportOf request F floods output;
  IsWork = λ bytes sink status floods. IsListingWork request F sink status floods;
}

abbrev pub path_task : PathRequest → Task
path_task request =
    field_task its_field request.common.field request.common.page (takes_memory_first request.format)
    (listing_task request)

-- the first fault: that of the text of the field, and then that of the listing
abbrev pub path_fault : PathRequest → List ℕ → Option Fault
path_fault request = (path_task request).fault
