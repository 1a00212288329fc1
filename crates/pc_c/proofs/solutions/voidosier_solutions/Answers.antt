-- The words that the text spells are those that were answered.
use Rattle.std.proofs.Common.{ℕ, List, Err, length, take, ap, inl, subst, ◌∙◌}
use Rattle.pc_words.specs.Words.{texts}
use Rattle.pc_c.specs.Solutions.{EndsSolutions, IsSolutionsStatus}
use Rattle.pc_c.proofs.SolutionLemmas.{ends_wanting}
use Rattle.pc_c.proofs.WordLemmas.{none_status, none_wanting, one_spelling, status_five, status_six, worded_status}
use Rattle.pc_c.proofs.solutions.voidosier_solutions.Goals as goal

pub returns-in-Ok-clause-status : goal.returns-in-Ok-clause-status
returns-in-Ok-clause-status c =
    worded_status IsSolutionsStatus c.args.words.now (texts c.in-Ok.texts.items) c.run_solutions-end.result.status c.in-Ok.ensures.spelled c.run_solutions-end.ensures.status c.run_solutions-end.ensures.worded

pub returns-in-Ok-clause-ended : goal.returns-in-Ok-clause-ended
returns-in-Ok-clause-ended c = λ words is.
    let same = ap texts c.deref.ensures.value ∙ one_spelling c.args.words.now (texts c.in-Ok.texts.items) words c.in-Ok.ensures.spelled is in
    let end = c.run_solutions-end.result in
    let new = c.run_solutions-end.new in
    subst (λ (words : List (List ℕ)). EndsSolutions words c.args.input.now c.args.after.now (length c.args.placements.now) (take end.written new.placements) end.count end.ended (take end.told new.err) (length c.args.err.now) end.floods end.status) same
    c.run_solutions-end.ensures.ended

pub returns-in-Err-clause-status : goal.returns-in-Err-clause-status
returns-in-Err-clause-status c =
    none_status IsSolutionsStatus (inl status_five) (inl status_six) c.args.words.now c.in-Err.none c.status.result c.status.ensures.unspelled c.status.ensures.no_memory (λ is. c.in-Err.ensures.unspelled (ap (λ e. Err e) is))

pub returns-in-Err-clause-ended : goal.returns-in-Err-clause-ended
returns-in-Err-clause-ended c = λ words is.
    ends_wanting words c.args.input.now c.args.after.now _ _ _ _ _ _ _ c.status.result (none_wanting c.args.words.now c.in-Err.none c.status.result c.status.ensures.no_memory (λ is. c.in-Err.ensures.unspelled (ap (λ e. Err e) is)) words is)
