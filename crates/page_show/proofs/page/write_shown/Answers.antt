-- Each row is the first of those that are left.
use Rattle.std.proofs.Common.{◌≡◌, ◌+◌, ◌∙◌, ap, sym, subst, arith}
use Rattle.std.specs.List.{flat_map}
use Rattle.pc_outside.specs.CountLaws.{none_more, none_yet}
use Rattle.pc_outside.specs.Writes.{GrowsUpTo}
use Rattle.pc_outside.specs.WriteLaws.{begins, after_piece, failed_piece, ends, at_err}
use Rattle.fumen_pages.specs.Letters.{shown_rows}
use Rattle.fumen_pages.proofs.CallerLemmas.{rows_left, rows_left-more, rows_left-end, shown-left}
use Rattle.page_show.specs.Page.{row_line}
use Rattle.page_show.proofs.page.write_shown.Goals as goal

pub loop-index-init : goal.loop-index-init
loop-index-init g c =
    let first = c.first_shown-index.ensures in
    let shown = shown-left c.args.letters.now c.first_shown-index.result first.value first.most in
    (subst (λ rows. GrowsUpTo (g.O.Sink.written c.args.out.now) (g.O.Sink.written c.args.out.now) (flat_map row_line rows) (flat_map row_line (rows_left c.args.letters.now c.first_shown-index.result))) (sym shown) (begins _ _), none_yet _ _)

pub returns-in_err-write_row-clause-written : goal.returns-in_err-write_row-clause-written
returns-in_err-write_row-clause-written g c =
    let more = rows_left-more c.args.letters.now c.loop-index.index c.loop-index-test.true in
    at_err c.from_residual.ensures.0 (failed_piece (flat_map row_line (rows_left c.args.letters.now (c.loop-index.index + 1))) c.loop-index.invariant.0 (ap (flat_map row_line) more) c.in_err-write_row.ensures.written)

pub loop-index-preserved : goal.loop-index-preserved
loop-index-preserved g c =
    let more = rows_left-more c.args.letters.now c.loop-index.index c.loop-index-test.true in
    (after_piece c.loop-index.invariant.0 (ap (flat_map row_line) more) c.in_ok-write_row.ensures.written, none_more c.loop-index.invariant.1 c.in_ok-write_row.ensures.cause)

pub returns-clause-written : goal.returns-clause-written
returns-clause-written g c =
    let letters = c.args.letters.now in
    let last : c.loop-index.index ≡ 23 = let most = c.first_shown-index.ensures.most in let end = c.loop-index.auto.index-end most in omega arith in
    let none = ap (λ n. flat_map row_line (rows_left letters n)) last ∙ ap (flat_map row_line) (rows_left-end letters) in
    record { done = ends (subst (GrowsUpTo (g.O.Sink.written c.args.out.now) (g.O.Sink.written c.loop-index.out) (flat_map row_line (shown_rows letters))) none c.loop-index.invariant.0); failed = tt }
