-- The status and the numbers are those of the answer.
use Rattle.std.proofs.Common.{length, take, ap}
use Rattle.pc_words.specs.Words.{texts}
use Rattle.pc_c.specs.declared.solutions.SolutionsEnded.{SolutionsEnded}
use Rattle.pc_c.proofs.SolutionLemmas.{ends_done, tells, was_written}
use Rattle.pc_c.proofs.solutions.run_solutions.Goals as goal

pub returns-in-Written-clause-ended : goal.returns-in-Written-clause-ended
returns-in-Written-clause-ended c =
    let words = texts c.args.words.now in
    let answered = c.answer_words-answered.result in
    let found = c.answer_words-answered.ensures in
    let new = c.answer_words-answered.new.placements in
    let written = c.in-Written.written in
    ends_done words c.args.input.now c.args.after.now _ _ _ _ _ _ _ _ (ap (λ (end : SolutionsEnded). end.status) c.quiet.ensures)
    (tells words c.args.input.now c.args.after.now (take written.size new) (length c.args.placements.now) written.count c.flag.result answered.floods found.floods written.ended found.counted c.flag.ensures.same
    (was_written words c.args.input.now c.args.after.now c.args.placements.now new found.floods answered.answer found.holds written c.in-Written.is))
