-- The pictures so far are written, and so many rows are left in the field that the placements left.
use Rattle.std.proofs.Common.{drop}
use Rattle.srs.specs.Rules.{table_of}
use Rattle.well.specs.Well.{filled}
use Rattle.pc_outside.specs.CountLaws.{NoneFailed}
use Rattle.pc_outside.specs.Writes.{GrowsUpTo}
use Rattle.report.specs.Grid.{grid_pictures}
use Rattle.report.proofs.LineLemmas.{PlaysOn}
use Rattle.report.proofs.grid.write_pictures.Given as goal

abbrev pub invariant-loop-placement : goal.invariant-loop-placement
invariant-loop-placement g l =
    GrowsUpTo (g.O.Sink.written l.initial.out) (g.O.Sink.written l.out)
    (grid_pictures (filled l.problem.well) l.problem.height l.placements)
    (grid_pictures (filled l.well) l.rows (drop l.placement-index l.placements))
    × PlaysOn (table_of l.problem.rules) l.problem.drop_mode (filled l.well) l.placements l.placement-index
    × NoneFailed g.O.Sink.counts_failures_alone (g.O.Sink.faults l.initial.out) (g.O.Sink.faults l.out)
