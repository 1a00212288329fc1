-- What `path` writes is determined by its request and the bytes of the source.
use Rattle.std.proofs.Common.{◌≡◌, ℕ, ◌/◌, List, ◌++◌, true, refl, sym, subst, ◌∙◌, Option, None, IsTrue, Bool, rules}
use Rattle.srs.specs.declared.placement.Placement.{Placement}
use Rattle.srs.specs.Rising.{is_above, IsRisingListOf}
use Rattle.srs.specs.Order.{sequence_cmp}
use Rattle.srs.proofs.CallerLemmas.{IsRisingListOf-unique, sequence_cmp-total}
use Rattle.srs.specs.Rules.{table_of}
use Rattle.well.specs.Counts.{empties_below}
use Rattle.well.specs.Well.{filled}
use Rattle.queue_pattern.specs.Queues.{queues}
use Rattle.queue_pattern.specs.Pattern.{elements_of}
use Rattle.hold_queue.specs.Permits.{SomePermits}
use Rattle.problem.specs.declared.problem.Problem.{Problem}
use Rattle.problem.specs.Problem.{needed_of}
use Rattle.problem.specs.Plays.{Plays}
use Rattle.problem.specs.Solution.{IsSolution, pieces_of}
use Rattle.problem.specs.SolutionList.{IsSolutionAbove}
use Rattle.lane_board.specs.Field.{Field}
use Rattle.sequence_text.proofs.CallerLemmas.{one_sequence}
use Rattle.pc_settings.specs.Request.{FieldRequest, PathRequest}
use Rattle.pc_settings.specs.declared.format.Format.{Format}
use Rattle.pc_source.specs.FieldTask.{its_field}
use Rattle.pc_source.proofs.FieldTasks.{one_of_field}
use Rattle.pc_source.specs.Problem.{IsProblemOf}
use Rattle.pc_source.proofs.CallerLemmas.{same_elements, same_table}
use Rattle.pc_path.specs.Formats.{formatted, solution_form, takes_memory_first}
use Rattle.pc_path.specs.Output.{IsGiven, IsReportOf, stats_form}
use Rattle.pc_path.specs.PathTask.{listing_task, path_task}
use Rattle.report.specs.Forms.{key_part, report_form}

-- two problems that are asked about one field have the same solutions
module _ (request : FieldRequest) (F : Field) (one other : Problem) (first : IsProblemOf request F one) (second : IsProblemOf request F other) where
  same_field : filled one.well ≡ filled other.well
  same_field = first.field ∙ sym second.field

  solution_of_same : (sequence : List Placement) → IsSolution one None sequence → IsSolution other None sequence
  solution_of_same sequence solution =
      let table : table_of one.rules ≡ table_of other.rules = same_table request F one other first second in
      let drop : one.drop_mode ≡ other.drop_mode = first.drop ∙ sym second.drop in
      let height : one.height ≡ other.height = first.height ∙ sym second.height in
      let hold : one.hold ≡ other.hold = first.hold ∙ sym second.hold in
      let held : one.held ≡ other.held = first.held ∙ sym second.held in
      let elements : elements_of one.pattern ≡ elements_of other.pattern = same_elements request F one other first second in
      record {
        plays =
            subst (λ t. Plays t other.drop_mode (filled other.well) other.height sequence) table
            (subst (λ d. Plays (table_of one.rules) d (filled other.well) other.height sequence) drop
            (subst (λ F. Plays (table_of one.rules) one.drop_mode F other.height sequence) same_field
            (subst (λ h. Plays (table_of one.rules) one.drop_mode (filled one.well) h sequence) height solution.plays)));
        permitted =
            subst (λ h. SomePermits h (queues (elements_of other.pattern)) other.held (pieces_of sequence)) hold
            (subst (λ e. SomePermits one.hold (queues e) other.held (pieces_of sequence)) elements
            (subst (λ p. SomePermits one.hold (queues (elements_of one.pattern)) p (pieces_of sequence)) held solution.permitted));
      }

  above_of_same : (bound above : Option (List Placement)) → bound ≡ above → (sequence : List Placement) → IsSolutionAbove (record { problem = one; queue = None; bound = bound }) sequence
      → IsSolutionAbove (record { problem = other; queue = None; bound = above }) sequence
  above_of_same bound above same sequence m = record { solution = solution_of_same sequence m.solution; above = subst (λ bound. IsTrue (is_above sequence_cmp bound sequence)) same m.above }

  -- the same reports
  one_report : (format : Format) (keys : Bool) (limit : ℕ) (xs ys : List (List Placement)) → xs ≡ ys → report_form (solution_form format keys one) limit xs ≡ report_form (solution_form format keys other) limit ys
  one_report format keys limit xs ys same =
      λ i. report_form (λ s. formatted format (key_part keys (same_table request F one other first second i) ((first.drop ∙ sym second.drop) i)) (same_field i) ((first.height ∙ sym second.height) i) s) limit (same i)

  -- and as many placements are needed
  same_needed : needed_of one ≡ needed_of other
  same_needed = λ i. empties_below (same_field i) ((first.height ∙ sym second.height) i) / 4

same_given : (needed : ℕ) (text : Option (List ℕ)) (one other : Option (List Placement)) → IsGiven needed text one → IsGiven needed text other → one ≡ other
same_given needed text one other first second = search (rules, one_sequence)

same_stats : (stats : Bool) (floods others : ℕ) → (stats ≡ true → floods ≡ others) → stats_form stats floods ≡ stats_form stats others
same_stats stats floods others same = search rules

report_unique : (request : PathRequest) (F : Field) (floods others : ℕ) → (request.stats ≡ true → floods ≡ others) → (a b : List ℕ) → IsReportOf request F floods a → IsReportOf request F others b → a ≡ b
report_unique request F floods others stats a b one other =
    let first = one.listed in
    let second = other.listed in
    let needed = same_needed request.common F first.problem second.problem first.named second.named in
    let given = subst (λ needed. IsGiven needed request.after first.after) needed first.given in
    let after : first.after ≡ second.after = same_given _ request.after first.after second.after given second.given in
    let list : IsRisingListOf sequence_cmp (IsSolutionAbove (record { problem = second.problem; queue = None; bound = second.after })) first.sequences = record {
      rising = first.list.rising;
      members = λ s. (
        λ among. above_of_same request.common F first.problem second.problem first.named second.named first.after second.after after s ((first.list.members s).0 among),
        λ above. (first.list.members s).1 (above_of_same request.common F second.problem first.problem second.named first.named second.after first.after (sym after) s above),
      );
    } in
    let same : first.sequences ≡ second.sequences = IsRisingListOf-unique sequence_cmp sequence_cmp-total (IsSolutionAbove (record { problem = second.problem; queue = None; bound = second.after })) first.sequences second.sequences list second.list in
    let reports = one_report request.common F first.problem second.problem first.named second.named request.format request.keys request.limit first.sequences second.sequences same in
    one.report ∙ (λ i. reports i ++ same_stats request.stats floods others stats i) ∙ sym other.report

pub one_path_output : (request : PathRequest) (bytes : List ℕ) (floods others : ℕ) → (request.stats ≡ true → floods ≡ others) → (a b : List ℕ)
    → (path_task request).IsOutput bytes floods a → (path_task request).IsOutput bytes others b → a ≡ b
one_path_output request bytes floods others stats =
    one_of_field its_field request.common.field request.common.page (takes_memory_first request.format) (listing_task request) bytes floods others (λ F. report_unique request F floods others stats)

-- two outputs are one report, each with its own number of floods behind it where it is written
pub shared_path_output : (request : PathRequest) (bytes : List ℕ) (floods others : ℕ) (a b : List ℕ)
    → (path_task request).IsOutput bytes floods a → (path_task request).IsOutput bytes others b
    → (report : List ℕ) × (a ≡ report ++ stats_form request.stats floods) × (b ≡ report ++ stats_form request.stats others)
shared_path_output request bytes floods others a b first second =
    let listed = first.holds.listed in
    let report = report_form (solution_form request.format request.keys listed.problem) request.limit listed.sequences in
    let again : (path_task request).IsOutput bytes others (report ++ stats_form request.stats others) =
    record { field = first.field; asked = first.asked; holds = record { listed = listed; report = refl } } in
    (report, first.holds.report, sym (one_path_output request bytes others others (λ _. refl) (report ++ stats_form request.stats others) b again second))
