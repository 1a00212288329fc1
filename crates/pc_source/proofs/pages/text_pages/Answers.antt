-- A text is read as pages.
use Rattle.std.proofs.Common.{subst}
use Rattle.fumen_digits.specs.declared.fault.FumenFault.{FumenFault}
use Rattle.fumen_digits.specs.ReadResults.{IsRefusal}
use Rattle.fumen_text.specs.Reading.{text_pages}
use Rattle.pc_source.proofs.ShowablePages.{read_showable}
use Rattle.pc_source.proofs.TextFaults.{has_fault}
use Rattle.pc_source.proofs.pages.text_pages.Goals as goal

pub returns-in-Ok-clause-showable : goal.returns-in-Ok-clause-showable
returns-in-Ok-clause-showable c = read_showable c.args.text.now c.in-Ok.field-0-0 c.in-Ok.pages.items c.in-Ok.ensures.found

pub returns-in-Err-Fault-clause-refused : goal.returns-in-Err-Fault-clause-refused
returns-in-Err-Fault-clause-refused c =
    has_fault c.args.text.now c.in-Err-Fault.fault (subst (λ r. IsRefusal (λ (f : FumenFault). f) r (text_pages c.args.text.now)) c.in-Err-Fault.field-0-is c.in-Err-Fault.ensures.exact)
