-- Each page is the first of those that are left.
use Rattle.std.proofs.Common.{◌+◌, sym, subst}
use Rattle.pc_outside.specs.CountLaws.{none_more}
use Rattle.pc_outside.specs.Writes.{GrowsUpTo}
use Rattle.pc_outside.specs.WriteLaws.{after_piece, failed_piece, ends, at_err}
use Rattle.page_show.specs.Page.{shown_page}
use Rattle.pc_pages.specs.Output.{shown_from}
use Rattle.pc_source.specs.Had.{IsShowable}
use Rattle.pc_pages.proofs.ShownPages.{shown-more, shown-none, item_written}
use Rattle.pc_pages.proofs.show.show_all.Goals as goal

pub show_page-requires-clause-colours : goal.show_page-requires-clause-colours
show_page-requires-clause-colours g c =
    (subst IsShowable (sym c.index-pages-index.is) (c.requires.showable c.loop-index.index c.index-pages-index.result c.loop-index-test.true)).colours

pub show_page-requires-clause-inside : goal.show_page-requires-clause-inside
show_page-requires-clause-inside g c =
    (subst IsShowable (sym c.index-pages-index.is) (c.requires.showable c.loop-index.index c.index-pages-index.result c.loop-index-test.true)).inside

pub returns-in_err-show_page-clause-written : goal.returns-in_err-show_page-clause-written
returns-in_err-show_page-clause-written g c =
    at_err c.from_residual.ensures.0
    (failed_piece _ c.loop-index.invariant.0 (shown-more c.args.pages.now c.loop-index.index c.index-pages-index.result c.loop-index-test.true)
    (item_written (shown_page (c.loop-index.index + 1)) c.index-pages-index.result _ c.index-pages-index.is c.in_err-show_page.ensures.written))

pub loop-index-preserved : goal.loop-index-preserved
loop-index-preserved g c = (
  after_piece c.loop-index.invariant.0 (shown-more c.args.pages.now c.loop-index.index c.index-pages-index.result c.loop-index-test.true)
      (item_written (shown_page (c.loop-index.index + 1)) c.index-pages-index.result _ c.index-pages-index.is c.in_ok-show_page.ensures.written),
  none_more c.loop-index.invariant.1 c.in_ok-show_page.ensures.cause,
)

pub returns-clause-written : goal.returns-clause-written
returns-clause-written g c = record {
  done = ends (subst (GrowsUpTo (g.O.Sink.written c.args.out.now) (g.O.Sink.written c.loop-index.out) (shown_from 1 c.args.pages.now))
      (shown-none c.args.pages.now c.loop-index.index c.loop-index-test.false) c.loop-index.invariant.0);
  failed = tt;
}
