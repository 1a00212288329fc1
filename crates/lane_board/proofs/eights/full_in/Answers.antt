-- The mask of the comparison.
use Rattle.lane_board.proofs.EightRows.{full_by_mask}
use Rattle.lane_board.proofs.eights.full_in.Goals as goal

pub returns-clause-rows : goal.returns-clause-rows
returns-clause-rows c = λ k below. full_by_mask c.args.at 1023 k c.args.rows.now c.load.result c.load.ensures.lanes c.load.ensures.eight below
