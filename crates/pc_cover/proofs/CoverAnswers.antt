-- What `cover` answers, and that it finds no fault of the words, and none that the source is too long.
use Rattle.std.proofs.Common.{◌≡◌, ◌≢◌, ℕ, ◌+◌, ◌-◌, ◌≤◌, ◌/◌, List, length, map, sum_by, arith, true, Some, None, Ok, Err, refl, sym, ap, subst, rules}
use Rattle.arrayvec.specs.ArrayVec.{ArrayVec}
use Rattle.lane_board.specs.Field.{Field}
use Rattle.srs.specs.declared.placement.Placement.{Placement}
use Rattle.well.specs.Counts.{empties_below}
use Rattle.well.specs.Well.{filled}
use Rattle.problem.specs.declared.problem.Problem.{Problem}
use Rattle.pc_outside.specs.declared.answers.Refused.{Refused}
use Rattle.pc_outside.specs.declared.answers.Refused.TheVariants as refused
use Rattle.fumen_digits.specs.ReadResults.{IsRefusal}
use Rattle.pc_faults.specs.declared.cover_fault.CoverFault.{CoverFault}
use Rattle.pc_faults.specs.declared.fault.Fault.{Fault}
use Rattle.pc_faults.specs.declared.fault.Fault.TheVariants as faults
use Rattle.pc_faults.specs.declared.status.Status.{Status}
use Rattle.pc_faults.specs.declared.status.Status.TheVariants.{NoMemory}
use Rattle.pc_faults.specs.Codes.{refused_status}
use Rattle.pc_faults.specs.Inner.{IsInner}
use Rattle.pc_faults.proofs.CallerLemmas.{first_stops, inner_first}
use Rattle.pc_settings.specs.Request.{FieldRequest}
use Rattle.pc_source.specs.Ends.{CommandEnds}
use Rattle.pc_source.specs.FieldTask.{its_rest}
use Rattle.pc_source.specs.FieldText.{itself}
use Rattle.pc_source.specs.Had.{HasProblem, IsRefusedInput}
use Rattle.pc_source.specs.ProblemFaults.{problem_fault, request_fault}
use Rattle.pc_source.specs.Sink.{SinkChange}
use Rattle.pc_source.specs.Task.{nothing, source_bytes}
use Rattle.pc_source.proofs.CallerLemmas.{inner_problem, refusal_before}
use Rattle.pc_source.proofs.CommandEnds.{ends_by_fault, ends_refused}
use Rattle.pc_source.proofs.FieldFaults.{request_first}
use Rattle.pc_source.proofs.FieldTasks.{field_had, inner_of_field}
use Rattle.pc_cover.specs.CoverTask.{cover_task, covering_task}
use Rattle.pc_cover.specs.LineStatus.{status_of_lines}
use Rattle.pc_cover.specs.Faults.{covering_fault, given_fault}
use Rattle.pc_cover.specs.Given.{Given, given_in}
use Rattle.pc_cover.specs.Sequences.{listed_placements}
use Rattle.pc_cover.specs.Work.{IsCoveringWork}

reads-something : source_bytes ≢ nothing
reads-something e = cc

-- ---- what is asked about the field, and then the lines

problem_first : (request : FieldRequest) (F : Field) (bytes : List ℕ) (f : Fault) → problem_fault request F ≡ Some f → covering_fault request F bytes ≡ Some f
unfolding covering_fault
problem_first request F bytes f is = first_stops (problem_fault request F) _ f is

pub lines_faulty : (request : FieldRequest) (F : Field) (bytes : List ℕ) (needed : ℕ) (f : CoverFault) → problem_fault request F ≡ None → needed ≡ empties_below F request.height / 4 → given_in needed bytes ≡ Err f
    → covering_fault request F bytes ≡ Some (faults.Cover f)
unfolding covering_fault
lines_faulty request F bytes needed f none is read = search rules

pub lines_read : (request : FieldRequest) (F : Field) (bytes : List ℕ) (needed : ℕ) (sequences : _) → problem_fault request F ≡ None → needed ≡ empties_below F request.height / 4 → given_in needed bytes ≡ Ok sequences
    → covering_fault request F bytes ≡ None
unfolding covering_fault
lines_read request F bytes needed sequences none is read = search rules

-- no fault of the words, and none that the source is too long
inner_given : (read : Given) → IsInner (given_fault read)
inner_given read = search rules

inner_covering : (request : FieldRequest) (F : Field) (bytes : List ℕ) → IsInner (covering_fault request F bytes)
unfolding covering_fault
inner_covering request F bytes = search (rules, inner_first, inner_problem, inner_given)

pub inner_cover : (request : FieldRequest) (bytes : List ℕ) → IsInner ((cover_task request).fault bytes)
inner_cover request bytes = inner_of_field its_rest request.field request.page true (covering_task request) bytes (λ F. inner_covering request F bytes)

-- the lines are refused
module _ (request : FieldRequest) (F : Field) (bytes : List ℕ) (needed : ℕ) (sink : SinkChange) (Kept : Type 0) (before now : ℕ) where
  lines_end : (r : Refused CoverFault) → problem_fault request F ≡ None → needed ≡ empties_below F request.height / 4 → IsRefusal (λ f. f) r (given_in needed bytes) → Kept → now ≡ before
      → CommandEnds (covering_task request F) bytes sink Kept before now (status_of_lines r)
  lines_end (refused.Fault f) none is read kept idle = ends_by_fault (covering_task request F) bytes sink Kept before now (faults.Cover f) (lines_faulty request F bytes needed f none is read) kept idle
  lines_end refused.NoMemory none is read kept idle = ends_refused (covering_task request F) bytes sink Kept before now refused.NoMemory NoMemory refl kept idle (λ _. reads-something) tt

  pub lines_refused : (r : Refused CoverFault) (status : Status) → status ≡ status_of_lines r → problem_fault request F ≡ None → needed ≡ empties_below F request.height / 4 → IsRefusal (λ f. f) r (given_in needed bytes) → Kept → now ≡ before
      → CommandEnds (covering_task request F) bytes sink Kept before now status
  lines_refused r status same none is read kept idle = subst (CommandEnds (covering_task request F) bytes sink Kept before now) (sym same) (lines_end r none is read kept idle)

-- ---- the problem

module _ (request : FieldRequest) (bytes : List ℕ) (sink : SinkChange) (Kept : Type 0) (before now : ℕ) where
  -- it is refused
  pub problem_refused : (r : Refused Fault) (status : Status) → status ≡ refused_status r → Kept → now ≡ before → IsRefusedInput (request_fault request itself) r → CommandEnds (cover_task request) bytes sink Kept before now status
  problem_refused r status same kept idle is =
      ends_refused (cover_task request) bytes sink Kept before now r status same kept idle (λ _. reads-something)
      (refusal_before (request_fault request itself) ((cover_task request).fault bytes) r (request_first its_rest request (covering_fault request) bytes (λ F. problem_first request F bytes)) is)

  -- it is had, and the run ends as what is asked about its field
  pub cover_ends : (problem : Problem) → HasProblem request itself problem → (status : Status) → CommandEnds (covering_task request (filled problem.well)) bytes sink Kept before now status
      → CommandEnds (cover_task request) bytes sink Kept before now status
  cover_ends problem has =
      field_had its_rest request.field request.page true (covering_task request) bytes sink Kept before now (filled problem.well) has.field (λ none. none) (λ _. refl)

-- ---- the floods

pub few_floods : (request : FieldRequest) (F : Field) (bytes : List ℕ) (needed : ℕ) (sequences : List (List Placement)) (floods : ℕ) → needed ≡ empties_below F request.height / 4 → given_in needed bytes ≡ Ok sequences
    → floods ≤ sum_by length sequences → IsCoveringWork request F bytes floods
few_floods request F bytes needed sequences floods is read few = search rules

pub at_most : (old new : ℕ) (items given : List (ArrayVec Placement)) → items ≡ given → new ≤ old + sum_by length (map listed_placements items) → new - old ≤ sum_by length (map listed_placements given)
at_most old new items given same few = omega (arith, few, ap (λ (l : List (ArrayVec Placement)). sum_by length (map listed_placements l)) same)
