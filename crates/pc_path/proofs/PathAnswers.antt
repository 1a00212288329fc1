-- What `path` answers once its problem is had, that it finds no fault of the words, and that bytes which are not read do
-- not matter.
use Rattle.std.proofs.Common.{◌≡◌, ◌∙◌, ℕ, ◌/◌, List, [], false, Option, Some, refl, sym, ap, rules}
use Rattle.lane_board.specs.Field.{Field}
use Rattle.well.specs.Counts.{empties_below}
use Rattle.well.specs.Well.{filled}
use Rattle.problem.specs.Problem.{needed_of}
use Rattle.problem.specs.declared.problem.Problem.{Problem}
use Rattle.pc_faults.specs.declared.fault.Fault.{Fault}
use Rattle.pc_faults.specs.declared.status.Status.{Status}
use Rattle.pc_faults.specs.Inner.{IsInner}
use Rattle.pc_faults.proofs.CallerLemmas.{first_stops, inner_first, second_left}
use Rattle.pc_settings.specs.Request.{PathRequest}
use Rattle.pc_source.specs.Ends.{CommandEnds}
use Rattle.pc_source.specs.FieldText.{DashText, field_needs, of_source}
use Rattle.pc_source.specs.Had.{HasProblem}
use Rattle.pc_source.specs.ProblemFaults.{problem_fault}
use Rattle.pc_source.specs.Sink.{SinkChange}
use Rattle.pc_source.specs.Task.{is_source}
use Rattle.pc_source.specs.FieldTask.{fault_after_field, its_field}
use Rattle.pc_source.proofs.CallerLemmas.{inner_problem}
use Rattle.pc_source.proofs.FieldTasks.{field_had, inner_of_field}
use Rattle.pc_path.specs.Faults.{after_fault, listing_fault}
use Rattle.pc_path.specs.Formats.{takes_memory_first}
use Rattle.pc_path.specs.PathTask.{listing_task, path_fault, path_task}

-- that of the problem comes first
pub problem_first : (request : PathRequest) (F : Field) (f : Fault) → problem_fault request.common F ≡ Some f → listing_fault request F ≡ Some f
unfolding listing_fault
problem_first request F f is = first_stops (problem_fault request.common F) _ f is

-- and then that of the given text
pub after_left : (request : PathRequest) (meant : DashText) (problem : Problem) → HasProblem request.common meant problem → listing_fault request (filled problem.well) ≡ after_fault (needed_of problem) request.after
unfolding listing_fault
after_left request meant problem has =
    second_left (problem_fault request.common (filled problem.well)) _ has.none
    ∙ ap (λ height. after_fault (empties_below (filled problem.well) height / 4) request.after) (sym has.named.height)

-- the run ends as what is asked about the field of the problem
pub path_ends : (request : PathRequest) (bytes : List ℕ) (sink : SinkChange) (Kept : Type 0) (before now : ℕ) (problem : Problem) → HasProblem request.common (of_source bytes) problem
    → (status : Status) → CommandEnds (listing_task request (filled problem.well)) [] sink Kept before now status → CommandEnds (path_task request) bytes sink Kept before now status
path_ends request bytes sink Kept before now problem has =
    field_had its_field request.common.field request.common.page (takes_memory_first request.format) (listing_task request) bytes sink Kept before now (filled problem.well) has.field (λ _. refl) (λ first. first)

inner_after : (needed : ℕ) (text : Option (List ℕ)) → IsInner (after_fault needed text)
inner_after needed text = search rules

inner_listing : (request : PathRequest) (F : Field) → IsInner (listing_fault request F)
unfolding listing_fault
inner_listing request F = inner_first _ _ (inner_problem request.common F) (inner_first _ [] (inner_after _ request.after) tt)

pub inner_path : (request : PathRequest) (bytes : List ℕ) → IsInner (path_fault request bytes)
inner_path request bytes =
    inner_of_field its_field request.common.field request.common.page (takes_memory_first request.format) (listing_task request) bytes (λ F. inner_listing request F)

pub path_fault_unread : (request : PathRequest) (one other : List ℕ) → is_source (field_needs request.common.field) ≡ false → path_fault request one ≡ path_fault request other
unfolding fault_after_field
path_fault_unread request one other own = search rules

pub path_output_unread : (request : PathRequest) (one other output : List ℕ) (floods : ℕ) → is_source (field_needs request.common.field) ≡ false → (path_task request).IsOutput one floods output
    → (path_task request).IsOutput other floods output
path_output_unread request one other output floods own is = search rules
