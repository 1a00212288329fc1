-- The field of a column that is drawn, and the pattern of its problem.
use Rattle.std.proofs.Common.{◌≡◌, ◌∙◌, ℕ, ◌<◌, List, [], ◌∷◌, None, Ok, Err, refl, sym, rules}
use Rattle.std.specs.Prelude.{codes}
use Rattle.lane_board.specs.Field.{rows_below}
use Rattle.lane_board.specs.CellCount.{cell_count, row_count}
use Rattle.lane_board.specs.FullRows.{is_full}
use Rattle.well.specs.Counts.{empties_below, is_filled_row, lowest_full, lowest_filled_from}
use Rattle.queue_pattern.specs.declared.element.Element.{Element}
use Rattle.queue_pattern.specs.declared.fault.PatternFault.{PatternFault}
use Rattle.queue_pattern.specs.Grammar.{choice, elements, elements_from, limited}
use Rattle.queue_pattern.specs.Queues.{falling_factor, pieces_in, queue_count}
use Rattle.pc_selfrun.specs.Problem.{column_field, is_left_open}

pub no_high_cell : (column : ℕ) → column < 7 → lowest_filled_from (column_field column) 4 ≡ None
unfolding column_field is_left_open rows_below lowest_filled_from is_filled_row
no_high_cell column within = search rules

pub no_full_row : (column : ℕ) → column < 7 → lowest_full (column_field column) ≡ None
unfolding column_field is_left_open rows_below lowest_full is_full
no_full_row column within = search rules

pub sixteen_empty : (column : ℕ) → column < 7 → empties_below (column_field column) 4 ≡ 16
unfolding column_field is_left_open rows_below cell_count row_count
sixteen_empty column within = search rules

abbrev pub five_of_all : List Element
five_of_all = record { set = 127; chosen = 5 } ∷ []

pub pattern_read : limited (elements (codes "*p5")) ≡ Ok five_of_all
unfolding elements_from choice pieces_in queue_count falling_factor
pattern_read = refl

-- the text of the pattern has no fault
pub pattern_spelled : (fault : PatternFault) → limited (elements (codes "*p5")) ≡ Err fault → ⊥
pattern_spelled fault is = let other = sym pattern_read ∙ is in cc
