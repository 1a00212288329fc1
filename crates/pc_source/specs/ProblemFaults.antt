-- The first fault of a problem that is asked for: that of the text of its field, and then that of what is asked about
-- the field.
use Rattle.std.specs.Prelude.{ℕ, ◌+◌, ◌/◌, ◌%◌, ◌&&◌, ◌==◌, nat_lt, if◌then◌else◌, List, [], ◌∷◌, Option, Some, None, option_map, Result, Ok, Err}
use Rattle.lane_board.specs.Field.{Field}
use Rattle.well.specs.Counts.{empties_below, lowest_full, lowest_filled_from}
use Rattle.queue_pattern.specs.declared.element.Element.{Element}
use Rattle.queue_pattern.specs.declared.fault.PatternFault.{PatternFault}
use Rattle.queue_pattern.specs.Grammar.{elements, limited}
use Rattle.queue_pattern.specs.Queues.{queue_len}
use Rattle.hold_queue.specs.AtHand.{count_held, playable}
use Rattle.pc_faults.specs.declared.fault.Fault.{Fault}
use Rattle.pc_faults.specs.declared.fault.Fault.TheVariants as faults
use Rattle.pc_faults.specs.FirstFault.{first_of_these}
use Rattle.pc_settings.specs.Request.{FieldRequest}
use Rattle.pc_source.specs.FieldTask.{fault_after_field}
use Rattle.pc_source.specs.FieldText.{DashText}

-- the lowest full row
abbrev pub full_row_fault : Field → Option Fault
full_row_fault F = option_map (λ row. faults.FullRow row) (lowest_full F)

-- of a field with these cells: a cell at or above the height, a full row
unfoldable pub filled_rows_fault : Field → ℕ → Option Fault
filled_rows_fault F height = first_of_these (
    option_map (λ row. faults.FieldTooHigh row) (lowest_filled_from F height)
    ∷ full_row_fault F
    ∷ [])

-- the elements of the pattern that is asked for
abbrev pub elements_asked : FieldRequest → Result (List Element) PatternFault
elements_asked request = limited (elements request.patterns)

abbrev pub pattern_fault : Result (List Element) PatternFault → Option Fault
pattern_fault (Ok elements) = None
pattern_fault (Err fault) = Some (faults.Pattern fault)

-- where the empty cells below the height are a multiple of four, a quarter of them is needed
abbrev pub too_few : ℕ → ℕ → Option Fault
too_few empties have = if empties % 4 == 0 && nat_lt have (empties / 4)
    then Some (faults.TooFewPieces have (empties / 4)) else None

-- by the number of empty cells, that of held pieces, and the pattern
abbrev pub pieces_fault : ℕ → ℕ → Result (List Element) PatternFault → Option Fault
pieces_fault empties held (Ok elements) = too_few empties (queue_len elements + held)
pieces_fault empties held (Err fault) = None

-- of a request about a field with these cells: its rows, the pattern, the number of pieces at
-- hand, which are those of a queue and the held one where it may be played
unfoldable pub problem_fault : FieldRequest → Field → Option Fault
problem_fault request F = first_of_these (
    filled_rows_fault F request.height
    ∷ pattern_fault (elements_asked request)
    ∷ pieces_fault (empties_below F request.height) (count_held (playable request.hold request.held)) (elements_asked request)
    ∷ [])

-- the text of the field, and then what is asked about the field
abbrev pub request_fault : FieldRequest → DashText → Option Fault
request_fault request meant = fault_after_field request.field request.page meant (problem_fault request)
