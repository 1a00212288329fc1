-- What `selfrun` does. It has no fault of its own, and does not read the source.
use Rattle.std.specs.Prelude.{ℕ, true, None}
use Rattle.pc_source.specs.Task.{Task, nothing}
use Rattle.pc_selfrun.specs.Output.{IsSelfrunOutput}
use Rattle.pc_selfrun.specs.Work.{IsSelfrunWork}

abbrev pub selfrun_task : ℕ → ℕ → Task
selfrun_task number pages = record {
  needs = nothing;
  memory_first = true;
  fault = λ bytes. None;
  IsOutput = λ bytes floods output. IsSelfrunOutput number pages output;
  IsWork = λ bytes sink status floods. IsSelfrunWork number pages status floods;
}
