-- The lines so far are written, and no write failed.
use Rattle.std.proofs.Common.{drop}
use Rattle.std.specs.List.{flat_map}
use Rattle.pc_outside.specs.CountLaws.{NoneFailed}
use Rattle.pc_outside.specs.Writes.{GrowsUpTo}
use Rattle.page_list.specs.PrintedLine.{page_form}
use Rattle.pc_pages.proofs.decode.write_lines.Given as goal

abbrev pub invariant-loop-page : goal.invariant-loop-page
invariant-loop-page g l =
    GrowsUpTo (g.O.Sink.written l.initial.out) (g.O.Sink.written l.out) (flat_map page_form l.pages) (flat_map page_form (drop l.page-index l.pages))
    × NoneFailed g.O.Sink.counts_failures_alone (g.O.Sink.faults l.initial.out) (g.O.Sink.faults l.out)
