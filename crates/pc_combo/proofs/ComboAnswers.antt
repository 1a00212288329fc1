-- `combo` finds no fault of the words, and none that the source is too long.
use Rattle.std.proofs.Common.{ℕ, List, [], ◌∷◌, length, true, refl, Result, Ok, Err}
use Rattle.std.specs.Prelude.{not, ◌==◌}
use Rattle.lane_board.specs.Field.{Field}
use Rattle.queue_pattern.specs.declared.element.Element.{Element}
use Rattle.queue_pattern.specs.declared.fault.PatternFault.{PatternFault}
use Rattle.queue_pattern.specs.Grammar.{elements, limited}
use Rattle.queue_pattern.specs.Queues.{queues}
use Rattle.pc_faults.specs.declared.fault.Fault.TheVariants as faults
use Rattle.pc_faults.specs.Inner.{IsInner}
use Rattle.pc_faults.proofs.CallerLemmas.{inner_first, inner_test}
use Rattle.pc_settings.specs.Request.{ComboRequest}
use Rattle.pc_source.specs.FieldTask.{its_field}
use Rattle.pc_source.proofs.FieldTasks.{inner_of_field}
use Rattle.pc_source.specs.ProblemFaults.{full_row_fault, pattern_fault}
use Rattle.pc_source.proofs.CallerLemmas.{inner_full_row, inner_pattern}
use Rattle.pc_combo.specs.ComboTask.{combo_task, run_task}
use Rattle.pc_combo.specs.Faults.{count_fault, one_queue, run_fault}

inner_count : (count : ℕ) → IsInner (one_queue count)
inner_count count = inner_test (not (count == 1)) (faults.NotOneQueue count) refl

inner_queues : (read : Result (List Element) PatternFault) → IsInner (count_fault read)
inner_queues (Ok elements) = inner_count (length (queues elements))
inner_queues (Err fault) = tt

inner_run : (request : ComboRequest) (F : Field) → IsInner (run_fault request F)
unfolding run_fault
inner_run request F =
    let read = limited (elements request.patterns) in
    inner_first (full_row_fault F) (pattern_fault read ∷ count_fault read ∷ []) (inner_full_row F)
    (inner_first (pattern_fault read) (count_fault read ∷ []) (inner_pattern read) (inner_first (count_fault read) [] (inner_queues read) tt))

pub inner_combo : (request : ComboRequest) (bytes : List ℕ) → IsInner ((combo_task request).fault bytes)
inner_combo request bytes = inner_of_field its_field request.field request.page true (run_task request) bytes (λ F. inner_run request F)
