-- The first fault of a fumen text with a page that is asked for, and of the text of a field.
use Rattle.std.specs.Prelude.{ℕ, ◌-◌, nat_lt, if◌then◌else◌, List, [], ◌∷◌, length, Option, Some, None, option_map, slice_get, Result, Ok, Err}
use Rattle.lane_board.specs.Field.{Field, empty_field}
use Rattle.well.specs.Rows.{rows_fault, written_cells}
use Rattle.fumen_digits.specs.declared.dialect.Dialect.{Dialect}
use Rattle.fumen_digits.specs.declared.fault.FumenFault.{FumenFault}
use Rattle.fumen_pages.specs.declared.page.Page.{Page}
use Rattle.fumen_text.specs.Reading.{text_pages}
use Rattle.pc_faults.specs.declared.fault.Fault.{Fault}
use Rattle.pc_faults.specs.declared.fault.Fault.TheVariants as faults
use Rattle.pc_faults.specs.FirstFault.{first_of_these}
use Rattle.pc_settings.specs.Request.{FieldText, fumen_text, rows_text}
use Rattle.pc_source.specs.FieldText.{DashText, page_cells, text_given}

abbrev pub pages_fault : Result (Dialect × List Page) FumenFault → Option Fault
pages_fault (Ok pages) = None
pages_fault (Err fault) = Some (faults.Fumen fault)

-- a page that is asked for stands in the list
abbrev pub page_fault : Option ℕ → List Page → Option Fault
page_fault None pages = None
page_fault (Some asked) pages = if nat_lt (length pages) asked then Some (faults.NoPage asked (length pages)) else None

abbrev pub asked_fault : Option ℕ → Result (Dialect × List Page) FumenFault → Option Fault
asked_fault asked (Ok (dialect, pages)) = page_fault asked pages
asked_fault asked (Err fault) = None

-- A fumen text, and then the page that is asked for. The law `text_faults_are_those_of_the_text` says this of the
-- reading `text_pages`.
unfoldable pub text_fault : Option ℕ → List ℕ → Option Fault
text_fault asked text = first_of_these (pages_fault (text_pages text) ∷ asked_fault asked (text_pages text) ∷ [])

-- the text of the field, and the page where it is a fumen's
abbrev pub field_fault : FieldText → ℕ → DashText → Option Fault
field_fault (rows_text text) number meant = option_map (λ fault. faults.Rows fault) (rows_fault text)
field_fault (fumen_text word) number meant = text_fault (Some number) (text_given word meant)

-- the cells of a page, where it is there
abbrev pub cells_shown : Option Page → Field
cells_shown None = empty_field
cells_shown (Some page) = page_cells page

-- the cells of the page with this number, counted from 1, of a text that was read
abbrev pub cells_read : ℕ → Result (Dialect × List Page) FumenFault → Field
cells_read number (Ok (dialect, pages)) = cells_shown (slice_get pages (number - 1))
cells_read number (Err fault) = empty_field

-- The cells of the field, where its text has no fault. The law `fields_are_read_as_they_are_asked` says that they are
-- those of `IsFieldOf`.
abbrev pub cells_asked : FieldText → ℕ → DashText → Field
cells_asked (rows_text text) number meant = written_cells text
cells_asked (fumen_text word) number meant = cells_read number (text_pages (text_given word meant))
