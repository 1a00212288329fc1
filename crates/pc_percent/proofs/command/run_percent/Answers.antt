-- The answers are those of the problem that is asked for.
use Rattle.std.proofs.Common.{Err, [], refl, ap, inr}
use Rattle.well.specs.Well.{filled}
use Rattle.queue_pattern.specs.Pattern.{elements_of}
use Rattle.queue_pattern.specs.Queues.{queues}
use Rattle.percent.specs.GoodHands.{is_good_queue}
use Rattle.percent.proofs.CallerLemmas.{good-decides}
use Rattle.pc_faults.specs.declared.status.Status.TheVariants.{NoMemory}
use Rattle.pc_settings.specs.Views.{percent_view}
use Rattle.pc_source.proofs.CommandEnds.{ends_refused, ends_unwritten, ends_written}
use Rattle.pc_percent.specs.Lines.{percent_form}
use Rattle.pc_percent.specs.PercentTask.{asked_task, percent_task}
use Rattle.pc_percent.proofs.PercentAnswers.{percent_ends}
use Rattle.pc_percent.proofs.command.run_percent.Goals as goal

pub returns-in-Err : goal.returns-in-Err
returns-in-Err g c =
    ends_refused (percent_task (percent_view c.args.settings.now)) c.args.bytes.now _ _ c.args.steps.now c.args.steps.now c.in-Err.refused c.from.result c.from.ensures refl refl
    (λ is. c.in-Err.ensures.memory (ap (λ r. Err r) is)) c.in-Err.ensures.refused

pub returns-in-Err-new : goal.returns-in-Err-new
returns-in-Err-new g c =
    let request = percent_view c.args.settings.now in
    let problem = c.in-Ok.problem in
    let has = c.in-Ok.ensures.problem in
    percent_ends request c.args.bytes.now _ _ c.args.steps.now c.new.new.steps problem has NoMemory
    (ends_unwritten (asked_task request (filled problem.well)) [] _ _ c.args.steps.now c.new.new.steps has.none refl c.new.ensures.counted (inr tt))

pub returns : goal.returns
returns g c =
    let problem = c.in-Ok.problem in
    let has = c.in-Ok.ensures.problem in
    let request = percent_view c.args.settings.now in
    let lines = percent_form (is_good_queue problem) request.failed (queues (elements_of problem.pattern)) in
    percent_ends request c.args.bytes.now _ _ c.args.steps.now c.new.new.steps problem has c.after_writes.result
    (ends_written (asked_task request (filled problem.well)) [] _ _ c.args.steps.now c.new.new.steps lines c.write_answers.result c.after_writes.result c.after_writes.ensures has.none
    (record { problem = problem; named = has.named; is_good = is_good_queue problem; decides = λ queue. good-decides problem queue c.in-Ok.ensures.fit; lines = refl })
    c.write_answers.ensures.written c.write_answers.ensures.cause c.new.ensures.counted tt tt)
