-- One more cell is written.
use Rattle.well.specs.Well.{filled}
use Rattle.report.proofs.GreyLemmas.{grey_next}
use Rattle.report.proofs.grey.grey_row.Goals as goal

pub loop-x-preserved : goal.loop-x-preserved
loop-x-preserved c =
    grey_next (filled c.args.well.now) c.args.y c.loop-x.x c.grey.result c.loop-x.row c.loop-x-test.true c.loop-x.invariant.0 c.grey.ensures c.loop-x.invariant.1
