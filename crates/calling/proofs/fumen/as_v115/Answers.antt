-- The pages were read, so only a comment can keep them from being written.
use Rattle.std.proofs.Common.{◌≡◌, Some, subst, sym}
use Rattle.fumen_digits.specs.declared.dialect.Dialect.TheVariants.{V115}
use Rattle.fumen_text.specs.Texts.{ReadsAs}
use Rattle.fumen_text.specs.Written.{list_encode_fault}
use Rattle.calling.proofs.GrownComments.{grown}
use Rattle.calling.proofs.fumen.as_v115.Goals as goal

pub page_of-page-requires : goal.page_of-page-requires
page_of-page-requires c =
    let read : ReadsAs c.args.text.now c.in-Ok.field-0-0 c.in-Ok.pages.items = c.in-Ok.ensures.found in
    let found : list_encode_fault V115 c.deref.result.now ≡ Some c.in-Err-Fault-encode.fault = rw c.in-Err-Fault-encode.field-0-is at c.in-Err-Fault-encode.ensures.fault in
    grown c.args.text.now c.in-Ok.field-0-0 c.deref.result.now c.in-Err-Fault-encode.fault (subst (ReadsAs c.args.text.now c.in-Ok.field-0-0) (sym c.deref.ensures.value) read) found
