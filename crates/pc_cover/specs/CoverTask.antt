-- What `cover` does: it reads the lines of the source and answers for its field, whose text is not the source's.
use Rattle.std.specs.Prelude.{true}
use Rattle.lane_board.specs.Field.{Field}
use Rattle.pc_settings.specs.Request.{FieldRequest}
use Rattle.pc_source.specs.FieldTask.{field_task, its_rest}
use Rattle.pc_source.specs.Task.{Task, source_bytes}
use Rattle.pc_cover.specs.Faults.{covering_fault}
use Rattle.pc_cover.specs.Output.{IsCoveringOf}
use Rattle.pc_cover.specs.Work.{IsCoveringWork}

-- what is left of it once its field is had
abbrev pub covering_task : FieldRequest → Field → Task
covering_task request F = record {
  needs = source_bytes;
  memory_first = true;
  fault = covering_fault request F;
  IsOutput = λ bytes floods output. IsCoveringOf request F bytes output;
  IsWork = λ bytes sink status floods. IsCoveringWork request F bytes floods;
}

abbrev pub cover_task : FieldRequest → Task
cover_task request = field_task its_rest request.field request.page true (covering_task request)
