-- A page without a fault is fit.
use Rattle.std.proofs.Common.{ℕ, Result, Ok, Err}
use Rattle.std.specs.Prelude.{OnOk}
use Rattle.pc_outside.specs.declared.answers.Refused.{Refused}
use Rattle.fumen_digits.specs.declared.dialect.Dialect.{Dialect}
use Rattle.fumen_pages.specs.declared.page.Page.{Page}
use Rattle.fumen_pages.specs.declared.encode_fault.EncodeFault.{EncodeFault}
use Rattle.fumen_text.specs.Written.{IsRefusedBy, HasTypes, IsWritable, page_encode_fault}
use Rattle.fumen_text.proofs.WrittenIsRead.{fit_page}
use Rattle.fumen_text.proofs.checks.check_page.Goals as goal

fit : {X : Type 0} (d : Dialect) (number : ℕ) (page : Page) (r : Result X (Refused EncodeFault)) → OnOk r (HasTypes page) → IsRefusedBy r (page_encode_fault d number page) → OnOk r (IsWritable d page)
fit d number page (Ok x) types found = fit_page d number page types found
fit d number page (Err e) types found = tt

pub returns-clause-fit : goal.returns-clause-fit
returns-clause-fit c = fit c.args.dialect c.args.number c.args.page.now c.check_parts.result c.check_parts.ensures.types c.check_parts.ensures.fault
