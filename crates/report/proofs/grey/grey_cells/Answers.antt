-- One more row is written, above the others.
use Rattle.std.proofs.Common.{refl, ◌∙◌, arith}
use Rattle.well.specs.Well.{filled}
use Rattle.report.proofs.GreyLemmas.{grey_more, grey_starts}
use Rattle.report.proofs.grey.grey_cells.Goals as goal

pub loop-y-init : goal.loop-y-init
loop-y-init c = (refl, grey_starts (filled c.args.well.now))

pub loop-y-preserved : goal.loop-y-preserved
loop-y-preserved c =
    grey_more (filled c.args.well.now) c.loop-y.cells c.copy_from_slice.new.self _ _ c.loop-y.y c.loop-y-test.true refl (omega arith) c.loop-y.invariant.0 (c.copy_from_slice.ensures.after ∙ c.grey_row.ensures) c.loop-y.invariant.1
