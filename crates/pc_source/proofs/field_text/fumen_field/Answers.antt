-- The pages of the text are had, of which one is the field.
use Rattle.std.proofs.Common.{◌∙◌, Some, sym, subst}
use Rattle.std.proofs.lemmas.Result.{err_from_is_err_and}
use Rattle.pc_source.specs.Had.{HasText}
use Rattle.pc_source.proofs.TextFaults.{text_reads, text_refused}
use Rattle.pc_source.proofs.field_text.fumen_field.Goals as goal

pub returns-in_err-pages-clause-refused : goal.returns-in_err-pages-clause-refused
returns-in_err-pages-clause-refused c =
    let p = err_from_is_err_and c.from_residual.result c.from_residual.ensures.1 in
    rw (p.1, p.2) (text_refused (Some c.args.number) c.args.text.now c.in_err-pages.field-0.0 c.in_err-pages.ensures.refused)

pub returns-in-Ok-clause-field : goal.returns-in-Ok-clause-field
returns-in-Ok-clause-field c =
    let has = subst (HasText c.args.text.now) (sym c.deref.ensures.value) c.in_ok-pages.ensures.pages in
    record {
      none = text_reads (Some c.args.number) c.args.text.now c.deref.result.now has ∙ c.in-Ok.ensures.none;
      is = record {
        dialect = has.dialect;
        pages = c.deref.result.now;
        reads = has.reads;
        field = record { page = c.in-Ok.page.now; there = c.in-Ok.ensures.page; cells = c.field_of.ensures };
      };
    }

pub returns-clause-refused : goal.returns-clause-refused
returns-clause-refused c =
    let has = subst (HasText c.args.text.now) (sym c.deref.ensures.value) c.in_ok-pages.ensures.pages in
    text_reads (Some c.args.number) c.args.text.now c.deref.result.now has ∙ c.in-Err.ensures.fault
