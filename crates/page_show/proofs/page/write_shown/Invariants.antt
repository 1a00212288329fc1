-- The rows so far are written, and no write failed.
use Rattle.std.specs.List.{flat_map}
use Rattle.pc_outside.specs.CountLaws.{NoneFailed}
use Rattle.pc_outside.specs.Writes.{GrowsUpTo}
use Rattle.fumen_pages.specs.Letters.{shown_rows}
use Rattle.fumen_pages.proofs.CallerLemmas.{rows_left}
use Rattle.page_show.specs.Page.{row_line}
use Rattle.page_show.proofs.page.write_shown.Given as goal

abbrev pub invariant-loop-index : goal.invariant-loop-index
invariant-loop-index g l =
    GrowsUpTo (g.O.Sink.written l.initial.out) (g.O.Sink.written l.out) (flat_map row_line (shown_rows l.letters)) (flat_map row_line (rows_left l.letters l.index))
    × NoneFailed g.O.Sink.counts_failures_alone (g.O.Sink.faults l.initial.out) (g.O.Sink.faults l.out)
