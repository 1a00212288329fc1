-- The forms in which `path` writes sequences, and what they mean for its memory.
use Rattle.std.specs.Prelude.{ℕ, Bool, true, false, List}
use Rattle.lane_board.specs.Field.{Field}
use Rattle.srs.specs.declared.placement.Placement.{Placement}
use Rattle.srs.specs.Rules.{table_of}
use Rattle.well.specs.Well.{filled}
use Rattle.problem.specs.declared.problem.Problem.{Problem}
use Rattle.pc_settings.specs.declared.format.Format.{Format}
use Rattle.pc_settings.specs.declared.format.Format.TheVariants.{Text, Fumen, Grid}
use Rattle.report.specs.Forms.{KeysOf, key_part, line_form}
use Rattle.report.specs.FumenLine.{fumen_form}
use Rattle.report.specs.Grid.{grid_form}

-- a sequence that is played from a field on, of which so many rows are to be removed: its line, its fumen text, or its
-- grid
abbrev pub formatted : Format → KeysOf → Field → ℕ → List Placement → List ℕ
formatted Text keys F rows sequence = line_form keys F sequence
formatted Fumen keys F rows sequence = fumen_form keys F sequence
formatted Grid keys F rows sequence = grid_form keys F rows sequence

-- a solution of a problem in this form, with keys where they are asked for
abbrev pub solution_form : Format → Bool → Problem → List Placement → List ℕ
solution_form format keys problem sequence =
    formatted format (key_part keys (table_of problem.rules) problem.drop_mode) (filled problem.well) problem.height
    sequence

-- whether all memory is taken before the first sequence is written; a fumen text takes some for each sequence
abbrev pub takes_memory_first : Format → Bool
takes_memory_first Fumen = false
takes_memory_first Text = true
takes_memory_first Grid = true
