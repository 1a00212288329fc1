-- The table of commands, and the task of the words.
use Rattle.std.specs.Prelude.{ℕ, List, Bool, true, false, Some, Result, Ok, Err}
use Rattle.pc_faults.specs.declared.fault.Fault.{Fault}
use Rattle.pc_source.specs.Task.{Task, nothing}
use Rattle.pc_source.specs.Work.{no_floods}
use Rattle.pc_path.specs.PathTask.{path_task}
use Rattle.pc_percent.specs.PercentTask.{percent_task}
use Rattle.pc_cover.specs.CoverTask.{cover_task}
use Rattle.pc_pages.specs.Tasks.{decode_task, encode_task, show_task}
use Rattle.pc_kicks.specs.KicksTask.{kicks_task}
use Rattle.pc_selfrun.specs.SelfrunTask.{selfrun_task}
use Rattle.pc_words.specs.Request.{Request, combo, cover, decode, encode, kicks, path, percent, selfrun, show}
use Rattle.pc_combo.specs.ComboTask.{combo_task}
use Rattle.pc_words.specs.Words.{asked_in, request_in}

abbrev pub task_for : Request → Task
task_for (path request) = path_task request
task_for (percent request) = percent_task request
task_for (cover request) = cover_task request
task_for (combo request) = combo_task request
task_for decode = decode_task
task_for (encode dialect) = encode_task dialect
task_for (show asked) = show_task asked
task_for (kicks read) = kicks_task read
task_for (selfrun number pages) = selfrun_task number pages

-- whether the number of floods is written
abbrev pub tells_floods : Request → Bool
tells_floods (path request) = request.stats
tells_floods other = false

abbrev pub tells_floods_in : Result Request Fault → Bool
tells_floods_in (Ok request) = tells_floods request
tells_floods_in (Err fault) = false

-- words, or a table of offsets, with a fault: nothing is needed to know it, nothing is written, and no flood is made
abbrev pub refused_task : Fault → Task
refused_task fault = record {
  needs = nothing;
  memory_first = true;
  fault = λ bytes. Some fault;
  IsOutput = λ bytes floods output. ⊥;
  IsWork = no_floods;
}

abbrev pub task_in : Result Request Fault → Task
task_in (Ok request) = task_for request
task_in (Err fault) = refused_task fault

-- what the words ask for
abbrev pub task_of : List (List ℕ) → Task
task_of words = task_in (asked_in (request_in words))
