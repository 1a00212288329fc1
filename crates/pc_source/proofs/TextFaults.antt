-- The faults of a fumen text with a page that is asked for, by what the text reads as.
use Rattle.std.proofs.Common.{◌≡◌, ◌∙◌, ℕ, List, Option, Some, Err, ap, rules}
use Rattle.pc_outside.specs.declared.answers.Refused.{Refused}
use Rattle.fumen_digits.specs.declared.dialect.Dialect.{Dialect}
use Rattle.fumen_digits.specs.declared.fault.FumenFault.{FumenFault}
use Rattle.fumen_pages.specs.declared.page.Page.{Page}
use Rattle.fumen_text.specs.Faults.{IsTextFault}
use Rattle.fumen_text.specs.Reading.{text_pages}
use Rattle.fumen_text.specs.Texts.{ReadsAs}
use Rattle.fumen_text.proofs.CallerLemmas.{read_from_text, read_from_text_fault}
use Rattle.pc_faults.specs.declared.fault.Fault.{Fault}
use Rattle.pc_faults.specs.declared.fault.Fault.TheVariants as faults
use Rattle.pc_faults.proofs.CallerLemmas.{first_stops, second_left}
use Rattle.pc_source.specs.Faults.{asked_fault, page_fault, pages_fault, text_fault}
use Rattle.pc_source.specs.Had.{HasText, IsRefusedInput}

-- the text is no fumen text
pub has_fault : (text : List ℕ) (f : FumenFault) → text_pages text ≡ Err f → pages_fault (text_pages text) ≡ Some (faults.Fumen f)
has_fault text f read = ap pages_fault read

-- its fault comes before that of the page
pub text_stops : (asked : Option ℕ) (text : List ℕ) (f : Fault) → pages_fault (text_pages text) ≡ Some f → text_fault asked text ≡ Some f
unfolding text_fault
text_stops asked text f is = first_stops (pages_fault (text_pages text)) _ f is

-- of pages that are had the fault is that of the page
pub text_reads : (asked : Option ℕ) (text : List ℕ) (pages : List Page) → HasText text pages → text_fault asked text ≡ page_fault asked pages
unfolding text_fault
text_reads asked text pages has =
    let read = read_from_text text has.dialect pages has.reads in
    second_left (pages_fault (text_pages text)) (asked_fault asked (text_pages text)) (ap pages_fault read) ∙ ap (asked_fault asked) read

pub text_faulty : (asked : Option ℕ) (text : List ℕ) (f : FumenFault) → IsTextFault text f → text_fault asked text ≡ Some (faults.Fumen f)
text_faulty asked text f is = text_stops asked text (faults.Fumen f) (ap pages_fault (read_from_text_fault text f is))

pub text_page : (asked : Option ℕ) (text : List ℕ) (dialect : Dialect) (pages : List Page) → ReadsAs text dialect pages → text_fault asked text ≡ page_fault asked pages
text_page asked text dialect pages reads = text_reads asked text pages (record { dialect = dialect; reads = reads })

-- what refuses the text refuses it with the page too
pub text_refused : (asked : Option ℕ) (text : List ℕ) (r : Refused Fault) → IsRefusedInput (pages_fault (text_pages text)) r → IsRefusedInput (text_fault asked text) r
text_refused asked text r is = search (rules, text_stops)
