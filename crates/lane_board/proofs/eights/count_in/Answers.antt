-- The sum of the lanes' counts.
use Rattle.lane_board.proofs.EightRows.{count_lanes}
use Rattle.lane_board.proofs.eights.count_in.Goals as goal

pub returns : goal.returns
returns c = count_lanes c.args.at c.args.rows.now c.load.result (λ k. (c.type_inv.rows k).fits) c.load.ensures.lanes c.load.ensures.eight
