-- The faults of `encode`, by what its lines are read as, and by what they spell.
use Rattle.std.proofs.Common.{◌≡◌, ℕ, List, Some, Ok, ap, rules}
use Rattle.std.specs.Prelude.{option_map}
use Rattle.fumen_digits.specs.declared.dialect.Dialect.{Dialect}
use Rattle.fumen_pages.specs.declared.page.Page.{Page}
use Rattle.fumen_pages.specs.declared.list_fault.ListFault.{ListFault}
use Rattle.fumen_text.specs.Written.{list_encode_fault}
use Rattle.page_list.specs.LineSpelling.{IsListFault, SpellsPages}
use Rattle.page_list.specs.ListReading.{pages_in}
use Rattle.page_list.proofs.CallerLemmas.{spelled_pages_read, spelled_fault_read}
use Rattle.pc_outside.specs.declared.answers.Refused.{Refused}
use Rattle.pc_faults.specs.declared.fault.Fault.{Fault}
use Rattle.pc_faults.specs.declared.fault.Fault.TheVariants as faults
use Rattle.pc_faults.proofs.CallerLemmas.{first_stops}
use Rattle.pc_source.specs.Had.{IsRefusedInput}
use Rattle.pc_source.proofs.CallerLemmas.{refusal_before}
use Rattle.pc_pages.specs.Faults.{encode_fault, lines_fault}

-- the lines have a fault
first_lines : (dialect : Dialect) (bytes : List ℕ) (f : Fault) → lines_fault (pages_in bytes) ≡ Some f → encode_fault dialect bytes ≡ Some f
unfolding encode_fault
first_lines dialect bytes f is = first_stops (lines_fault (pages_in bytes)) _ f is

pub lines_refused : (dialect : Dialect) (bytes : List ℕ) (r : Refused Fault) → IsRefusedInput (lines_fault (pages_in bytes)) r → IsRefusedInput (encode_fault dialect bytes) r
lines_refused dialect bytes r is = refusal_before (lines_fault (pages_in bytes)) (encode_fault dialect bytes) r (first_lines dialect bytes) is

-- the lines are read as pages
pub lines_read : (dialect : Dialect) (bytes : List ℕ) (pages : List Page) → pages_in bytes ≡ Ok pages → encode_fault dialect bytes ≡ option_map (λ f. faults.Encode f) (list_encode_fault dialect pages)
unfolding encode_fault
lines_read dialect bytes pages read = search rules

pub lines_faulty : (dialect : Dialect) (bytes : List ℕ) (f : ListFault) → IsListFault bytes f → encode_fault dialect bytes ≡ Some (faults.List f)
lines_faulty dialect bytes f is = first_lines dialect bytes (faults.List f) (ap lines_fault (spelled_fault_read bytes f is))

pub lines_spelled : (dialect : Dialect) (bytes : List ℕ) (pages : List Page) → SpellsPages bytes pages → encode_fault dialect bytes ≡ option_map (λ f. faults.Encode f) (list_encode_fault dialect pages)
lines_spelled dialect bytes pages spelled = lines_read dialect bytes pages (spelled_pages_read bytes pages spelled)
