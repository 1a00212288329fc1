-- The pages so far are made, and those that are left begin with the cells that the last one leaves.
use Rattle.std.proofs.Common.{◌≡◌, ◌++◌, drop}
use Rattle.srs.specs.Rules.{table_of}
use Rattle.well.specs.Well.{filled}
use Rattle.fumen_digits.specs.declared.dialect.Dialect.TheVariants.{V115}
use Rattle.fumen_pages.specs.Cells.{AreCells}
use Rattle.report.specs.Forms.{key_part}
use Rattle.report.specs.FumenLine.{placement_pages, sequence_pages}
use Rattle.report.specs.Keys.{has_keys}
use Rattle.report.proofs.LineLemmas.{PlaysOn}
use Rattle.report.proofs.fumen_line.FumenWriter.set_pages.Given as goal

abbrev pub invariant-loop-placement : goal.invariant-loop-placement
invariant-loop-placement l =
    (sequence_pages (key_part (has_keys l.initial.keys) (table_of l.problem.rules) l.problem.drop_mode) (filled l.problem.well) l.placements
    ≡ l.self.pages.items ++ placement_pages (key_part (has_keys l.initial.keys) (table_of l.problem.rules) l.problem.drop_mode) l.cells l.colour (filled l.well) (drop l.placement-index l.placements))
    × PlaysOn (table_of l.problem.rules) l.problem.drop_mode (filled l.well) l.placements l.placement-index
    × AreCells V115 l.cells
    × (has_keys l.keys ≡ has_keys l.initial.keys)
