-- What `percent` writes is determined by its request and the bytes of the source.
use Rattle.std.proofs.Common.{◌≡◌, ◌∙◌, ℕ, List, true, sym, rules}
use Rattle.srs.specs.declared.piece.Piece.{Piece}
use Rattle.lane_board.specs.Field.{Field}
use Rattle.lane_board.proofs.CallerLemmas.{same_from_both}
use Rattle.queue_pattern.specs.Pattern.{elements_of}
use Rattle.queue_pattern.specs.Queues.{queues}
use Rattle.problem.specs.declared.problem.Problem.{Problem}
use Rattle.percent.specs.Good.{Good}
use Rattle.pc_settings.specs.Request.{FieldRequest, PercentRequest}
use Rattle.pc_source.specs.FieldTask.{its_field}
use Rattle.pc_source.proofs.FieldTasks.{one_of_field}
use Rattle.pc_source.specs.Problem.{IsProblemOf}
use Rattle.pc_source.proofs.CallerLemmas.{same_elements}
use Rattle.pc_percent.specs.Lines.{percent_form}
use Rattle.pc_percent.specs.Output.{IsAnsweredFor}
use Rattle.pc_percent.specs.PercentTask.{asked_task, percent_task}

good_of_same : (request : FieldRequest) (F : Field) (one other : Problem) → IsProblemOf request F one → IsProblemOf request F other → (queue : List Piece) → Good one queue → Good other queue
good_of_same request F one other first second queue good = search rules

one_answer : (request : PercentRequest) (F : Field) (a b : List ℕ) → IsAnsweredFor request F a → IsAnsweredFor request F b → a ≡ b
one_answer request F a b first second =
    let same : (queue : List Piece) → first.is_good queue ≡ second.is_good queue = λ queue. same_from_both (first.is_good queue) (second.is_good queue)
    (λ t. (second.decides queue).1 (good_of_same request.common F first.problem second.problem first.named second.named queue ((first.decides queue).0 t)))
    (λ t. (first.decides queue).1 (good_of_same request.common F second.problem first.problem second.named first.named queue ((second.decides queue).0 t))) in
    let elements : elements_of first.problem.pattern ≡ elements_of second.problem.pattern = same_elements request.common F first.problem second.problem first.named second.named in
    first.lines ∙ (λ i. percent_form (λ queue. same queue i) request.failed (queues (elements i))) ∙ sym second.lines

pub one_percent_output : (request : PercentRequest) (bytes : List ℕ) (floods others : ℕ) (a b : List ℕ) → (percent_task request).IsOutput bytes floods a → (percent_task request).IsOutput bytes others b → a ≡ b
one_percent_output request bytes floods others = one_of_field its_field request.common.field request.common.page true (asked_task request) bytes floods others (λ F. one_answer request F)
