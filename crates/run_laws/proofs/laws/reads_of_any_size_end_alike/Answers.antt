-- Both runs saw the same bytes.
use Rattle.pc_words.specs.Words.{asked_in, request_in}
use Rattle.pc_app.specs.Tasks.{task_of, tells_floods_in}
use Rattle.run_laws.proofs.Alike.{both_end_alike}
use Rattle.run_laws.proofs.SharedOutputs.{shared_output}
use Rattle.run_laws.proofs.laws.reads_of_any_size_end_alike.Goals as goal

pub returns : goal.returns
returns c = λ words left bytes seen floods others sink sinks one other.
    both_end_alike (task_of words) bytes (tells_floods_in (asked_in (request_in words))) floods others (shared_output words bytes floods others) sink sinks one other
