-- The lines are read as pages, or have a fault.
use Rattle.std.proofs.Common.{◌≡◌, ℕ, List, Err, Vec, Global, ap, subst}
use Rattle.pc_outside.specs.declared.answers.Refused.{Refused}
use Rattle.pc_outside.specs.declared.answers.Refused.TheVariants as refused
use Rattle.fumen_pages.specs.declared.page.Page.{Page}
use Rattle.fumen_pages.specs.declared.list_fault.ListFault.{ListFault}
use Rattle.page_list.specs.ListReading.{pages_in}
use Rattle.fumen_digits.specs.ReadResults.{Gives}
use Rattle.pc_pages.specs.Faults.{lines_fault}
use Rattle.pc_pages.proofs.encode.list_pages.Goals as goal

gives_fault : (refusal : Refused ListFault) (f : ListFault) (bytes : List ℕ) → Gives (λ (pages : Vec Page Global). pages.items) (λ fault. fault) (Err refusal) (pages_in bytes) → refusal ≡ refused.Fault f → pages_in bytes ≡ Err f
gives_fault refusal f bytes gives is = subst (λ r. Gives (λ (pages : Vec Page Global). pages.items) (λ fault. fault) (Err r) (pages_in bytes)) is gives

pub returns-in-Err-Fault-clause-refused : goal.returns-in-Err-Fault-clause-refused
returns-in-Err-Fault-clause-refused c =
    ap lines_fault (gives_fault c.in-Err-Fault.field-0 c.in-Err-Fault.fault c.args.bytes.now c.in-Err-Fault.ensures.exact c.in-Err-Fault.field-0-is)

pub returns-in-Err-NoMemory-clause-memory : goal.returns-in-Err-NoMemory-clause-memory
returns-in-Err-NoMemory-clause-memory c = λ _. (c.in-Err-NoMemory.ensures.memory (ap (λ r. Err r) c.in-Err-NoMemory.field-0-is)).1
