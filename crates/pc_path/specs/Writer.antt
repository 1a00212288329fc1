-- What contracts see of a writer of solutions.
use Rattle.std.specs.Prelude.{◌≡◌, ℕ, Bool, List, []}
use Rattle.srs.specs.declared.placement.Placement.{Placement}
use Rattle.problem.specs.declared.problem.Problem.{Problem}
use Rattle.report.specs.Keys.{HasFoundNone, has_keys}
use Rattle.report.specs.Writer.{pages_of_line, room_for_pages}
use Rattle.pc_settings.specs.declared.format.Format.{Format}
use Rattle.pc_settings.specs.declared.format.Format.TheVariants as formats
use Rattle.pc_path.specs.declared.writer.FormWriter.{FormWriter}
use Rattle.pc_path.specs.declared.writer.FormWriter.TheVariants.{Text, Fumen, Grid}
use Rattle.pc_path.specs.declared.writer.SolutionWriter.{SolutionWriter}
use Rattle.pc_path.specs.Formats.{solution_form}

abbrev pub format_of : FormWriter → Format
format_of Text = formats.Text
format_of (Fumen writer) = formats.Fumen
format_of Grid = formats.Grid

-- it has written nothing yet, and has room for the pages of a line where its form has some
abbrev pub IsNewForm : FormWriter → Type 0
IsNewForm Text = Unit {0}
IsNewForm (Fumen writer) = (pages_of_line writer ≡ []) × (room_for_pages writer ≡ 22)
IsNewForm Grid = Unit {0}

-- and it knows no key yet
abbrev pub IsNew : SolutionWriter → Type 0
IsNew writer = IsNewForm writer.form × HasFoundNone writer.keys

-- the format that it was asked for, and whether with keys
abbrev pub asked_of : SolutionWriter → Format × Bool
asked_of writer = (format_of writer.form, has_keys writer.keys)

-- what it writes for a solution
abbrev pub form_of : SolutionWriter → Problem → List Placement → List ℕ
form_of writer problem sequence = solution_form (asked_of writer).0 (asked_of writer).1 problem sequence
