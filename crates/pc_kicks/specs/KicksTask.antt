-- What `kicks` does. A fault of the text is found before it.
use Rattle.std.specs.Prelude.{true, None, Result}
use Rattle.srs.specs.Kick.{Table}
use Rattle.kick_file.specs.declared.fault.KickFault.{KickFault}
use Rattle.pc_source.specs.Task.{Task, nothing}
use Rattle.pc_source.specs.Work.{no_floods}
use Rattle.pc_kicks.specs.Output.{IsKicksOutput}

abbrev pub kicks_task : Result Table KickFault → Task
kicks_task read = record {
  needs = nothing;
  memory_first = true;
  fault = λ bytes. None;
  IsOutput = λ bytes floods output. IsKicksOutput read output;
  IsWork = no_floods;
}
