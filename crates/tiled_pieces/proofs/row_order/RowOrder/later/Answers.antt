-- One more row.
use Rattle.tiled_pieces.proofs.RowOrderLemmas.{later_next}
use Rattle.tiled_pieces.proofs.row_order.RowOrder.later.Goals as goal

pub loop-rest-preserved : goal.loop-rest-preserved
loop-rest-preserved c = later_next c.args.self.before c.args.rows c.loop-rest.rest c.without_row-rest.result c.loop-rest.later c.after-later.result c.lowest_row-row.result
    c.lowest_row-row.ensures.below c.lowest_row-row.ensures.has c.without_row-rest.ensures.others c.after-later.ensures c.loop-rest.invariant
