-- The first fault of what is asked about a field: that of the field's text, or else that of the rest.
use Rattle.std.proofs.Common.{◌≡◌, ◌∙◌, ℕ, List, [], ◌∷◌, Option, Some, None, sym, ap}
use Rattle.lane_board.specs.Field.{Field}
use Rattle.well.specs.Well.{filled}
use Rattle.problem.specs.declared.problem.Problem.{Problem}
use Rattle.pc_faults.specs.declared.fault.Fault.{Fault}
use Rattle.pc_faults.specs.FirstFault.{first_of_these}
use Rattle.pc_faults.proofs.CallerLemmas.{first_alone, first_stops, second_left}
use Rattle.pc_settings.specs.Request.{FieldRequest, FieldText}
use Rattle.pc_source.specs.Faults.{cells_asked, field_fault}
use Rattle.pc_source.specs.FieldTask.{SourceOf, dash_text, fault_after_field, fault_by_field, rest_bytes}
use Rattle.pc_source.specs.FieldText.{DashText}
use Rattle.pc_source.specs.Had.{HasField, HasProblem}
use Rattle.pc_source.specs.ProblemFaults.{problem_fault, request_fault}
use Rattle.pc_source.proofs.FieldLaws.{field_cells}

module _ (text : FieldText) (page : ℕ) (meant : DashText) (fault : Field → Option Fault) where
  pub field_stops : (f : Fault) → field_fault text page meant ≡ Some f → fault_after_field text page meant fault ≡ Some f
  unfolding fault_after_field
  field_stops f is = first_stops (field_fault text page meant) _ f is

  -- the field is had
  pub field_goes_on : (F : Field) → HasField text page meant F → fault_after_field text page meant fault ≡ fault F
  unfolding fault_after_field
  field_goes_on F has =
      second_left (field_fault text page meant) (fault (cells_asked text page meant)) has.none
      ∙ ap fault (field_cells text page meant F has.is)

-- the same where the source has these bytes
module _ (source : SourceOf) (text : FieldText) (page : ℕ) (fault : Field → List ℕ → Option Fault) (bytes : List ℕ) where
  pub field_first : (f : Fault) → field_fault text page (dash_text source bytes) ≡ Some f → fault_by_field source text page fault bytes ≡ Some f
  field_first = field_stops text page (dash_text source bytes) (λ F. fault F (rest_bytes source bytes))

  pub had_fault : (F : Field) → HasField text page (dash_text source bytes) F → fault_by_field source text page fault bytes ≡ fault F (rest_bytes source bytes)
  had_fault = field_goes_on text page (dash_text source bytes) (λ F. fault F (rest_bytes source bytes))

-- of two lists of two, with the same first one
second_goes_on : (one other whole : Option Fault) (f : Fault) → (other ≡ Some f → whole ≡ Some f) → first_of_these (one ∷ other ∷ []) ≡ Some f → first_of_these (one ∷ whole ∷ []) ≡ Some f
second_goes_on None other whole f goes is = first_alone whole ∙ goes (sym (first_alone other) ∙ is)
second_goes_on (Some found) other whole f goes is = is

-- a fault of the problem comes first, where it does so of the rest
pub request_first : (source : SourceOf) (request : FieldRequest) (fault : Field → List ℕ → Option Fault) (bytes : List ℕ)
    → ((F : Field) (f : Fault) → problem_fault request F ≡ Some f → fault F (rest_bytes source bytes) ≡ Some f)
    → (f : Fault) → request_fault request (dash_text source bytes) ≡ Some f → fault_by_field source request.field request.page fault bytes ≡ Some f
unfolding fault_after_field
request_first source request fault bytes first f is =
    let F = cells_asked request.field request.page (dash_text source bytes) in
    second_goes_on (field_fault request.field request.page (dash_text source bytes)) (problem_fault request F) (fault F (rest_bytes source bytes)) f (first F f) is

-- the problem is had
pub no_request_fault : (request : FieldRequest) (meant : DashText) (problem : Problem) → HasProblem request meant problem → request_fault request meant ≡ None
no_request_fault request meant problem has =
    field_goes_on request.field request.page meant (problem_fault request) (filled problem.well) has.field ∙ has.none
