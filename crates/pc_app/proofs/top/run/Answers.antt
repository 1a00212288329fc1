-- What the run answered before its fault was told, and the line of the fault.
use Rattle.std.proofs.Common.{ap}
use Rattle.pc_words.specs.Words.{texts}
use Rattle.pc_app.proofs.Ending.{run_ends}
use Rattle.pc_app.proofs.top.run.Goals as goal

pub returns : goal.returns
returns g c =
    let answer = c.answer-status.ensures in
    let told = c.tell_fault.ensures in
    run_ends (texts c.args.words.now) _ _ _ _ _ _ c.args.steps.now _ c.answer-status.result (λ kept. ap g.O.Sink.written kept) (λ kept. ap g.O.Sink.faults kept)
    answer.ran.ran answer.ran.leaves answer.words_fault answer.kicks_fault answer.source answer.source_rose answer.source_kept answer.ran.work answer.rose answer.input_idle answer.unread_idle answer.ran.fault_idle
    told.whole_line told.fault_line told.no_line
