-- The placements so far are written or held, and those that are left are free in the field that they leave.
use Rattle.std.proofs.Common.{◌≡◌, ◌++◌, ◌≤◌, length, drop}
use Rattle.srs.specs.Rules.{table_of}
use Rattle.well.specs.Well.{filled}
use Rattle.pc_outside.specs.CountLaws.{NoneFailed}
use Rattle.pc_outside.specs.Writes.{GrowsUpTo}
use Rattle.report.specs.Forms.{key_part, line_form}
use Rattle.report.specs.Keys.{has_keys}
use Rattle.report.specs.Played.{AreFree}
use Rattle.report.proofs.LineLemmas.{line_from}
use Rattle.report.proofs.line.write_each.Given as goal

abbrev pub invariant-loop-placement : goal.invariant-loop-placement
invariant-loop-placement g l =
    GrowsUpTo (g.O.Sink.written l.initial.out) (g.O.Sink.written l.out)
    (line_form (key_part (has_keys l.initial.keys) (table_of l.rules) l.drop_mode) (filled l.well) l.placements)
    (l.held.items ++ line_from (key_part (has_keys l.initial.keys) (table_of l.rules) l.drop_mode) l.divider (filled l.before) (drop l.placement-index l.placements))
    × AreFree (filled l.before) (drop l.placement-index l.placements)
    × (length l.divider ≤ 1)
    × NoneFailed g.O.Sink.counts_failures_alone (g.O.Sink.faults l.initial.out) (g.O.Sink.faults l.out)
    × (has_keys l.keys ≡ has_keys l.initial.keys)
