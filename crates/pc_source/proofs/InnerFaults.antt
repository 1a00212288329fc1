-- No command finds a fault of the words, or that the source is too long.
use Rattle.std.proofs.Common.{ℕ, ◌+◌, ◌/◌, ◌%◌, ◌&&◌, ◌==◌, nat_lt, List, [], Option, Result, Ok, Err, refl, rules}
use Rattle.lane_board.specs.Field.{Field}
use Rattle.well.specs.Counts.{empties_below, lowest_full, lowest_filled_from}
use Rattle.queue_pattern.specs.declared.element.Element.{Element}
use Rattle.queue_pattern.specs.declared.fault.PatternFault.{PatternFault}
use Rattle.queue_pattern.specs.Queues.{queue_len}
use Rattle.hold_queue.specs.AtHand.{count_held, playable}
use Rattle.pc_faults.specs.declared.fault.Fault.TheVariants as faults
use Rattle.pc_faults.specs.Inner.{IsInner}
use Rattle.pc_faults.proofs.CallerLemmas.{inner_first, inner_map, inner_test}
use Rattle.pc_settings.specs.Request.{FieldRequest, FieldText, rows_text, fumen_text}
use Rattle.pc_source.specs.Faults.{field_fault, text_fault}
use Rattle.pc_source.specs.FieldText.{DashText}
use Rattle.pc_source.specs.ProblemFaults.{elements_asked, full_row_fault, pattern_fault, pieces_fault, problem_fault, filled_rows_fault, too_few}

pub inner_text : (asked : Option ℕ) (text : List ℕ) → IsInner (text_fault asked text)
unfolding text_fault
inner_text asked text = search rules

pub inner_field : (field : FieldText) (number : ℕ) (meant : DashText) → IsInner (field_fault field number meant)
inner_field field number meant = search (rules, rows_text, inner_map, fumen_text, inner_text)

-- ---- of what is asked about a field

pub inner_full_row : (F : Field) → IsInner (full_row_fault F)
inner_full_row F = inner_map (λ row. faults.FullRow row) (lowest_full F) (λ row. refl)

inner_rows : (F : Field) (height : ℕ) → IsInner (filled_rows_fault F height)
unfolding filled_rows_fault
inner_rows F height =
    inner_first _ _ (inner_map (λ row. faults.FieldTooHigh row) (lowest_filled_from F height) (λ row. refl))
    (inner_first _ [] (inner_full_row F) tt)

pub inner_pattern : (read : Result (List Element) PatternFault) → IsInner (pattern_fault read)
inner_pattern (Ok elements) = tt
inner_pattern (Err fault) = refl

inner_few : (empties have : ℕ) → IsInner (too_few empties have)
inner_few empties have = inner_test (empties % 4 == 0 && nat_lt have (empties / 4)) (faults.TooFewPieces have (empties / 4)) refl

inner_pieces : (empties held : ℕ) (read : Result (List Element) PatternFault) → IsInner (pieces_fault empties held read)
inner_pieces empties held (Ok elements) = inner_few empties (queue_len elements + held)
inner_pieces empties held (Err fault) = tt

pub inner_problem : (request : FieldRequest) (F : Field) → IsInner (problem_fault request F)
unfolding problem_fault
inner_problem request F =
    inner_first _ _ (inner_rows F request.height)
    (inner_first _ _ (inner_pattern (elements_asked request))
    (inner_first _ [] (inner_pieces (empties_below F request.height) (count_held (playable request.hold request.held)) (elements_asked request)) tt))
