-- What crates above cite: one output, and no fault that is not found by a command.
use Rattle.std.proofs.Common.{ℕ, List, [], Result, Ok, Err, refl}
use Rattle.fumen_digits.specs.declared.dialect.Dialect.{Dialect}
use Rattle.fumen_pages.specs.declared.page.Page.{Page}
use Rattle.fumen_pages.specs.declared.list_fault.ListFault.{ListFault}
use Rattle.fumen_text.specs.Written.{list_encode_fault}
use Rattle.page_list.specs.ListReading.{pages_in}
use Rattle.pc_faults.specs.declared.fault.Fault.TheVariants as faults
use Rattle.pc_faults.specs.Inner.{IsInner}
use Rattle.pc_faults.proofs.CallerLemmas.{inner_first, inner_map}
use Rattle.pc_pages.specs.Faults.{encode_fault, lines_fault, unwritten_fault}
pub use Rattle.pc_pages.proofs.OneOutput.{one_decode_output, one_encode_output, one_show_output}

inner_lines : (read : Result (List Page) ListFault) → IsInner (lines_fault read)
inner_lines (Ok pages) = tt
inner_lines (Err f) = refl

inner_unwritten : (dialect : Dialect) (read : Result (List Page) ListFault) → IsInner (unwritten_fault dialect read)
inner_unwritten dialect (Ok pages) = inner_map (λ f. faults.Encode f) (list_encode_fault dialect pages) (λ f. refl)
inner_unwritten dialect (Err f) = tt

pub inner_encode : (dialect : Dialect) (bytes : List ℕ) → IsInner (encode_fault dialect bytes)
unfolding encode_fault
inner_encode dialect bytes = inner_first (lines_fault (pages_in bytes)) _ (inner_lines (pages_in bytes)) (inner_first _ [] (inner_unwritten dialect (pages_in bytes)) tt)
