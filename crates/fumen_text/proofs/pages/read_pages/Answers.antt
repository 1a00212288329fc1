-- One more page is read, or is one too many, or has a fault; and then all are read.
use Rattle.std.proofs.Common.{sym, ◌∙◌, rules}
use Rattle.std.proofs.lemmas.Result.{err_from_is_err_and}
use Rattle.fumen_pages.specs.Lists.{most_pages}
use Rattle.fumen_text.proofs.ReadLoop.{read_starts, read_more, read_stops, read_full, read_ends}
use Rattle.fumen_text.proofs.pages.read_pages.Goals as goal

pub loop-alloc-init : goal.loop-alloc-init
loop-alloc-init c = search (rules, (read_starts c.args.dialect c.args.digits.now most_pages))

pub returns-then-count-eq-MOST_PAGES : goal.returns-then-count-eq-MOST_PAGES
returns-then-count-eq-MOST_PAGES c = search (rules, read_full)

pub returns-in_err-page : goal.returns-in_err-page
returns-in_err-page c =
    search (rules, (err_from_is_err_and c.from_residual.result c.from_residual.ensures.1), (read_stops c.in_err-page.field-0.0 c.args.dialect c.args.digits.now most_pages c.len-count.result c.loop-alloc.pages.items c.loop-alloc.at (sym c.is_due.ensures ∙ c.loop-alloc-test.true) (c.len-count.ensures ∙ c.loop-alloc.pages.ok.0)))

pub loop-alloc-preserved : goal.loop-alloc-preserved
loop-alloc-preserved c =
    search (rules, (read_more c.args.dialect c.args.digits.now most_pages c.len-count.result c.loop-alloc.pages.items c.loop-alloc.at (c.in_ok-page.page, c.in_ok-page.behind) (sym c.is_due.ensures ∙ c.loop-alloc-test.true) (c.len-count.ensures ∙ c.loop-alloc.pages.ok.0)))

pub returns : goal.returns
returns c = search (rules, read_ends)
