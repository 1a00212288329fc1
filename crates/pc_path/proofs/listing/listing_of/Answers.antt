-- The problem is had, and then the given sequence.
use Rattle.std.proofs.Common.{◌∙◌, ap, sym}
use Rattle.std.proofs.lemmas.Result.{err_from_is_err_and}
use Rattle.well.specs.Well.{filled}
use Rattle.pc_settings.specs.Views.{path_view}
use Rattle.pc_source.specs.FieldTask.{its_field}
use Rattle.pc_source.specs.FieldText.{of_source}
use Rattle.pc_source.specs.ProblemFaults.{request_fault}
use Rattle.pc_source.proofs.CallerLemmas.{refusal_before}
use Rattle.pc_source.proofs.FieldFaults.{had_fault, request_first}
use Rattle.pc_path.specs.Faults.{after_fault, listing_fault}
use Rattle.pc_path.specs.PathTask.{path_fault}
use Rattle.pc_path.proofs.PathAnswers.{after_left, problem_first}
use Rattle.pc_path.proofs.listing.listing_of.Goals as goal

pub returns-in_err-problem-clause-refused : goal.returns-in_err-problem-clause-refused
returns-in_err-problem-clause-refused c =
    let request = path_view c.args.settings.now in
    let p = err_from_is_err_and c.from_residual.result c.from_residual.ensures.1 in
    rw (p.1, p.2) (refusal_before (request_fault request.common (of_source c.args.bytes.now)) (path_fault request c.args.bytes.now) c.in_err-problem.field-0.0
    (request_first its_field request.common (λ F bytes. listing_fault request F) c.args.bytes.now (problem_first request)) c.in_err-problem.ensures.refused)

pub returns-in_err-problem-clause-memory : goal.returns-in_err-problem-clause-memory
returns-in_err-problem-clause-memory c = λ none.
    let p = err_from_is_err_and c.from_residual.result c.from_residual.ensures.1 in
    let here = p.1 in
    let same = p.2 in
    c.in_err-problem.ensures.memory cc

pub returns-in-Ok-clause-none : goal.returns-in-Ok-clause-none
returns-in-Ok-clause-none c =
    let request = path_view c.args.settings.now in
    after_left request (of_source c.args.bytes.now) c.in_ok-problem.problem c.in_ok-problem.ensures.problem ∙ ap (λ n. after_fault n request.after) (sym c.needed.ensures) ∙ c.in-Ok.ensures.none

pub returns-in-Err-clause-refused : goal.returns-in-Err-clause-refused
returns-in-Err-clause-refused c =
    let request = path_view c.args.settings.now in
    let has = c.in_ok-problem.ensures.problem in
    had_fault its_field request.common.field request.common.page (λ F bytes. listing_fault request F) c.args.bytes.now (filled c.in_ok-problem.problem.well) has.field
    ∙ after_left request (of_source c.args.bytes.now) c.in_ok-problem.problem has ∙ ap (λ n. after_fault n request.after) (sym c.needed.ensures) ∙ c.in-Err.ensures.fault
