-- The pages that a text reads as, and its first fault, from what reading gives.
use Rattle.std.proofs.Common.{List, Vec, Global, rules}
use Rattle.fumen_digits.specs.declared.dialect.Dialect.{Dialect}
use Rattle.fumen_digits.specs.declared.fault.FumenFault.{FumenFault}
use Rattle.fumen_digits.proofs.CallerLemmas.{gives_found, gives_fault, gives_same}
use Rattle.fumen_pages.specs.declared.page.Page.{Page}
use Rattle.fumen_text.specs.Texts.{ReadsAs}
use Rattle.fumen_text.specs.Reading.{text_pages}
use Rattle.fumen_text.proofs.TextReadAsSpelled.{text_from_read, read_from_text, text_fault_from_read, read_from_text_fault}
use Rattle.fumen_text.proofs.text.decode.Goals as goal

abbrev seen : Dialect × Vec Page Global → Dialect × List Page
seen x = (x.0, x.1.items)

pub returns-clause-found : goal.returns-clause-found
returns-clause-found c =
    let text = c.args.text.now in
    gives_found seen (λ (f : FumenFault). f) (λ x. ReadsAs text x.0 x.1) c.read_text.result (text_pages text) (λ x read. text_from_read text x read) c.read_text.ensures.exact

pub returns-clause-only : goal.returns-clause-only
returns-clause-only c = search (rules, gives_same, read_from_text)

pub returns-clause-fault : goal.returns-clause-fault
returns-clause-fault c = search (rules, text_fault_from_read, gives_fault)

pub returns-clause-fault_only : goal.returns-clause-fault_only
returns-clause-fault_only c = search (rules, gives_same, read_from_text_fault)
