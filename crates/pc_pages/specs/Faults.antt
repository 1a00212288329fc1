-- The first fault of lines of pages that are to be written as a fumen text.
use Rattle.std.specs.Prelude.{ℕ, List, [], ◌∷◌, Option, Some, None, option_map, Result, Ok, Err}
use Rattle.fumen_digits.specs.declared.dialect.Dialect.{Dialect}
use Rattle.fumen_pages.specs.declared.page.Page.{Page}
use Rattle.fumen_pages.specs.declared.list_fault.ListFault.{ListFault}
use Rattle.fumen_text.specs.Written.{list_encode_fault}
use Rattle.page_list.specs.ListReading.{pages_in}
use Rattle.pc_faults.specs.declared.fault.Fault.{Fault}
use Rattle.pc_faults.specs.declared.fault.Fault.TheVariants as faults
use Rattle.pc_faults.specs.FirstFault.{first_of_these}

abbrev pub lines_fault : Result (List Page) ListFault → Option Fault
lines_fault (Ok pages) = None
lines_fault (Err fault) = Some (faults.List fault)

abbrev pub unwritten_fault : Dialect → Result (List Page) ListFault → Option Fault
unwritten_fault dialect (Ok pages) = option_map (λ fault. faults.Encode fault) (list_encode_fault dialect pages)
unwritten_fault dialect (Err fault) = None

-- The lines, and then their pages, which can be written in the dialect: the law
-- `encode_faults_are_those_of_the_lines` says this of the reading `pages_in`.
unfoldable pub encode_fault : Dialect → List ℕ → Option Fault
encode_fault dialect bytes = first_of_these (
    lines_fault (pages_in bytes)
    ∷ unwritten_fault dialect (pages_in bytes)
    ∷ [])
