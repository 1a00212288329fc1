-- What `percent` answers once its problem is had, and that it finds no fault of the words, and none that the source is
-- too long.
use Rattle.std.proofs.Common.{ℕ, List, [], true, refl}
use Rattle.well.specs.Well.{filled}
use Rattle.problem.specs.declared.problem.Problem.{Problem}
use Rattle.pc_faults.specs.declared.status.Status.{Status}
use Rattle.pc_faults.specs.Inner.{IsInner}
use Rattle.pc_settings.specs.Request.{PercentRequest}
use Rattle.pc_source.specs.Ends.{CommandEnds}
use Rattle.pc_source.specs.FieldTask.{its_field}
use Rattle.pc_source.specs.FieldText.{of_source}
use Rattle.pc_source.specs.Had.{HasProblem}
use Rattle.pc_source.specs.Sink.{SinkChange}
use Rattle.pc_source.proofs.CallerLemmas.{inner_problem}
use Rattle.pc_source.proofs.FieldTasks.{field_had, inner_of_field}
use Rattle.pc_percent.specs.PercentTask.{asked_task, percent_fault, percent_task}

-- it ends as what is asked about the field of the problem
pub percent_ends : (request : PercentRequest) (bytes : List ℕ) (sink : SinkChange) (Kept : Type 0) (before now : ℕ) (problem : Problem) → HasProblem request.common (of_source bytes) problem
    → (status : Status) → CommandEnds (asked_task request (filled problem.well)) [] sink Kept before now status → CommandEnds (percent_task request) bytes sink Kept before now status
percent_ends request bytes sink Kept before now problem has =
    field_had its_field request.common.field request.common.page true (asked_task request) bytes sink Kept before now (filled problem.well) has.field (λ _. refl) (λ _. refl)

pub inner_percent : (request : PercentRequest) (bytes : List ℕ) → IsInner (percent_fault request bytes)
inner_percent request bytes = inner_of_field its_field request.common.field request.common.page true (asked_task request) bytes (λ F. inner_problem request.common F)
