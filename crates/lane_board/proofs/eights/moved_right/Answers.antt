-- Each lane is shifted to the left, and what leaves the columns is masked.
use Rattle.lane_board.proofs.MovedLanes.{shifted_left}
use Rattle.lane_board.proofs.eights.moved_right.Goals as goal

pub returns : goal.returns
returns c = shifted_left c.args.lanes c.args.right c.requires.eight
