-- The line of the number, and then the rows.
use Rattle.std.proofs.Common.{◌++◌, ap, sym, subst}
use Rattle.std.specs.Prelude.{codes}
use Rattle.pc_outside.specs.Writes.{WritesAll}
use Rattle.pc_outside.specs.WriteLaws.{after_piece, at_err, begins, failed_piece, last_call}
use Rattle.fumen_pages.specs.Letters.{letters_of}
use Rattle.line_writing.specs.Count.{count_form}
use Rattle.page_show.specs.Page.{rows_lines, shown_page, with_operation}
use Rattle.page_show.proofs.page.show_page.Goals as goal

pub returns-in_err-write_count-clause-written : goal.returns-in_err-write_count-clause-written
unfolding shown_page
returns-in_err-write_count-clause-written g c =
    let rows = rows_lines (with_operation c.args.page.now.operation (letters_of c.args.page.now.cells)) in
    at_err c.from_residual.ensures.0 (failed_piece rows (begins _ _) (ap (λ number. count_form (codes "page ") number ++ rows) (sym c.from.ensures)) c.in_err-write_count.ensures.written)

pub returns-clause-written : goal.returns-clause-written
unfolding shown_page
returns-clause-written g c =
    let rows = rows_lines (with_operation c.args.page.now.operation (letters_of c.args.page.now.cells)) in
    let number = ap (λ number. count_form (codes "page ") number ++ rows) (sym c.from.ensures) in
    last_call (after_piece (begins _ _) number c.in_ok-write_count.ensures.written)
    (subst (λ letters. WritesAll (g.O.Sink.written c.write_count.new.out) (g.O.Sink.written c.write_rows.new.out) c.write_rows.result (rows_lines letters)) c.shown_letters.ensures c.write_rows.ensures.written)
