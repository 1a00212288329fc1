-- The first fault of what `combo` asks about its field: a full row, then that of the pattern, and then that it has not
-- one queue.
use Rattle.std.specs.Prelude.{ℕ, not, ◌==◌, if◌then◌else◌, List, [], ◌∷◌, length, Option, Some, None, Result, Ok, Err}
use Rattle.lane_board.specs.Field.{Field}
use Rattle.queue_pattern.specs.declared.element.Element.{Element}
use Rattle.queue_pattern.specs.declared.fault.PatternFault.{PatternFault}
use Rattle.queue_pattern.specs.Grammar.{elements, limited}
use Rattle.queue_pattern.specs.Queues.{queues}
use Rattle.pc_faults.specs.declared.fault.Fault.{Fault}
use Rattle.pc_faults.specs.declared.fault.Fault.TheVariants as faults
use Rattle.pc_faults.specs.FirstFault.{first_of_these}
use Rattle.pc_source.specs.ProblemFaults.{full_row_fault, pattern_fault}
use Rattle.pc_settings.specs.Request.{ComboRequest}

abbrev pub one_queue : ℕ → Option Fault
one_queue count = if not (count == 1) then Some (faults.NotOneQueue count) else None

abbrev pub count_fault : Result (List Element) PatternFault → Option Fault
count_fault (Ok elements) = one_queue (length (queues elements))
count_fault (Err fault) = None

-- of a request about a field with these cells
unfoldable pub run_fault : ComboRequest → Field → Option Fault
run_fault request F = first_of_these (
    full_row_fault F
    ∷ pattern_fault (limited (elements request.patterns))
    ∷ count_fault (limited (elements request.patterns))
    ∷ [])
