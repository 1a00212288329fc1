-- Each line is the first of those that are left.
use Rattle.std.proofs.Common.{sym, subst, ◌∙◌, arith}
use Rattle.page_list.specs.PrintedLine.{page_form}
use Rattle.pc_outside.specs.WriteLaws.{next_item, item_failed, at_err}
use Rattle.pc_source.specs.Had.{IsShowable}
use Rattle.pc_pages.proofs.ShownPages.{item_written}
use Rattle.pc_pages.proofs.decode.write_lines.Goals as goal

pub write_line-requires : goal.write_line-requires
write_line-requires g c = subst IsShowable (sym c.page-item.is) (c.requires c.loop-page.page-index c.page-item.result c.loop-page-test.true)

pub returns-in_err-write_line-clause-written : goal.returns-in_err-write_line-clause-written
returns-in_err-write_line-clause-written g c =
    at_err c.from_residual.ensures.0
    (item_failed page_form c.args.pages.now c.loop-page.page-index c.page-item.result c.loop-page-test.true c.loop-page.invariant.0
    (item_written page_form c.page-item.result _ c.page-item.is c.in_err-write_line.ensures.written))

pub loop-page-preserved : goal.loop-page-preserved
loop-page-preserved g c = (
  next_item page_form c.args.pages.now c.loop-page.page-index c.page-item.result c.loop-page-test.true c.loop-page.invariant.0
      (item_written page_form c.page-item.result _ c.page-item.is c.in_ok-write_line.ensures.written),
  record {
    later = omega (arith, c.in_ok-write_line.ensures.cause.later, c.loop-page.invariant.1.later);
    kept = λ alone. c.in_ok-write_line.ensures.cause.kept alone (λ is. cc) ∙ c.loop-page.invariant.1.kept alone;
  },
)
