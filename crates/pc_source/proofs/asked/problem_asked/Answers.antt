-- The field is had, and then its problem.
use Rattle.std.proofs.Common.{◌≡◌, ◌∙◌, None, sym, subst}
use Rattle.std.proofs.lemmas.Result.{err_from_is_err_and}
use Rattle.lane_board.specs.Field.{Field}
use Rattle.well.specs.Well.{filled}
use Rattle.problem.specs.declared.problem.Problem.{Problem}
use Rattle.pc_settings.specs.Request.{FieldRequest}
use Rattle.pc_settings.specs.Views.{field_view}
use Rattle.pc_source.specs.Faults.{field_fault}
use Rattle.pc_source.specs.FieldText.{DashText}
use Rattle.pc_source.specs.Had.{HasField, HasProblem, dash_view}
use Rattle.pc_source.specs.Problem.{IsProblemOf}
use Rattle.pc_source.specs.ProblemFaults.{problem_fault, request_fault}
use Rattle.pc_source.proofs.CallerLemmas.{refusal_before}
use Rattle.pc_source.proofs.FieldFaults.{field_goes_on, field_stops}
use Rattle.pc_source.proofs.asked.problem_asked.Goals as goal

-- the field of the problem is the one that was had
has_problem : (request : FieldRequest) (meant : DashText) (F : Field) (problem : Problem) → HasField request.field request.page meant F → problem_fault request F ≡ None → IsProblemOf request F problem → HasProblem request meant problem
has_problem request meant F problem has none named = record {
  field = subst (HasField request.field request.page meant) (sym named.field) has;
  none = subst (λ G. problem_fault request G ≡ None) (sym named.field) none;
  named = subst (λ G. IsProblemOf request G problem) (sym named.field) named;
}

pub returns-in_err-well-clause-refused : goal.returns-in_err-well-clause-refused
returns-in_err-well-clause-refused c =
    let request = field_view c.args.settings.now in
    let meant = dash_view c.args.dash in
    let p = err_from_is_err_and c.from_residual.result c.from_residual.ensures.1 in
    rw (p.1, p.2) (refusal_before (field_fault request.field request.page meant) (request_fault request meant) c.in_err-well.field-0.0
    (field_stops request.field request.page meant (problem_fault request)) c.in_err-well.ensures.refused)

pub returns-in-Ok-clause-problem : goal.returns-in-Ok-clause-problem
returns-in-Ok-clause-problem c =
    has_problem (field_view c.args.settings.now) (dash_view c.args.dash) (filled c.in_ok-well.well) c.in-Ok.problem c.in_ok-well.ensures.field c.in-Ok.ensures.none c.in-Ok.ensures.problem

pub returns-in-Err-clause-refused : goal.returns-in-Err-clause-refused
returns-in-Err-clause-refused c =
    let request = field_view c.args.settings.now in
    field_goes_on request.field request.page (dash_view c.args.dash) (problem_fault request) (filled c.in_ok-well.well) c.in_ok-well.ensures.field ∙ c.in-Err.ensures.fault
