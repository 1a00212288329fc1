-- What `cover` writes is determined by its request and the bytes of the source.
use Rattle.std.proofs.Common.{true, ◌≡◌, ◌∙◌, ℕ, List, Result, Ok, sym, subst, rules}
use Rattle.std.specs.Ordering.{nat_cmp}
use Rattle.std.proofs.lemmas.Cmp.{nat_cmp_total}
use Rattle.srs.proofs.CallerLemmas.{IsRisingListOf-unique}
use Rattle.srs.specs.declared.placement.Placement.{Placement}
use Rattle.lane_board.specs.Field.{Field}
use Rattle.queue_pattern.specs.Pattern.{elements_of}
use Rattle.queue_pattern.specs.Queues.{queues}
use Rattle.problem.specs.declared.problem.Problem.{Problem}
use Rattle.cover.specs.Covered.{IsCovered, IsCoveredList}
use Rattle.pc_settings.specs.Request.{FieldRequest}
use Rattle.pc_source.specs.FieldTask.{its_rest}
use Rattle.pc_source.proofs.FieldTasks.{one_of_field}
use Rattle.pc_source.specs.Problem.{IsProblemOf}
use Rattle.pc_source.proofs.CallerLemmas.{same_elements}
use Rattle.pc_faults.specs.declared.cover_fault.CoverFault.{CoverFault}
use Rattle.pc_cover.specs.Lines.{cover_form}
use Rattle.pc_cover.specs.Output.{IsCoverFor, IsCoveringOf}
use Rattle.pc_cover.specs.CoverTask.{covering_task, cover_task}

covered_same : (request : FieldRequest) (F : Field) (one other : Problem) → IsProblemOf request F one → IsProblemOf request F other → (sequences : List (List Placement)) (number : ℕ) → IsCovered one sequences number → IsCovered other sequences number
covered_same request F one other first second sequences number covered = search rules

one_cover_for : (request : FieldRequest) (F : Field) (sequences : List (List Placement)) (a b : List ℕ) → IsCoverFor request F sequences a → IsCoverFor request F sequences b → a ≡ b
one_cover_for request F sequences a b first second =
    let elements : elements_of first.problem.pattern ≡ elements_of second.problem.pattern = same_elements request F first.problem second.problem first.named second.named in
    let list : IsCoveredList second.problem sequences first.numbers = record {
      rising = first.covered.rising;
      members = λ number. (
        λ among. covered_same request F first.problem second.problem first.named second.named sequences number ((first.covered.members number).0 among),
        λ covered. (first.covered.members number).1 (covered_same request F second.problem first.problem second.named first.named sequences number covered),
      );
    } in
    let numbers : first.numbers ≡ second.numbers =
    IsRisingListOf-unique nat_cmp nat_cmp_total (IsCovered second.problem sequences) first.numbers second.numbers list second.covered in
    first.lines ∙ (λ i. cover_form (queues (elements i)) (numbers i)) ∙ sym second.lines

same_given : (one other : List (List Placement)) → ◌≡◌ {A = Result (List (List Placement)) CoverFault} (Ok one) (Ok other) → one ≡ other
same_given one other e = cc

one_covering : (request : FieldRequest) (F : Field) (bytes a b : List ℕ) → IsCoveringOf request F bytes a → IsCoveringOf request F bytes b → a ≡ b
one_covering request F bytes a b first second =
    let same = same_given first.sequences second.sequences (sym first.given ∙ second.given) in
    one_cover_for request F second.sequences a b (subst (λ s. IsCoverFor request F s a) same first.covered) second.covered

pub one_cover_output : (request : FieldRequest) (bytes : List ℕ) (floods others : ℕ) (a b : List ℕ) → (cover_task request).IsOutput bytes floods a → (cover_task request).IsOutput bytes others b → a ≡ b
one_cover_output request bytes floods others = one_of_field its_rest request.field request.page true (covering_task request) bytes floods others (λ F. one_covering request F bytes)
