-- The pages so far are written, and no write failed.
use Rattle.std.proofs.Common.{◌+◌, drop}
use Rattle.pc_outside.specs.CountLaws.{NoneFailed}
use Rattle.pc_outside.specs.Writes.{GrowsUpTo}
use Rattle.pc_pages.specs.Output.{shown_from}
use Rattle.pc_pages.proofs.show.show_all.Given as goal

abbrev pub invariant-loop-index : goal.invariant-loop-index
invariant-loop-index g l =
    GrowsUpTo (g.O.Sink.written l.initial.out) (g.O.Sink.written l.out) (shown_from 1 l.pages) (shown_from (l.index + 1) (drop l.index l.pages))
    × NoneFailed g.O.Sink.counts_failures_alone (g.O.Sink.faults l.initial.out) (g.O.Sink.faults l.out)
