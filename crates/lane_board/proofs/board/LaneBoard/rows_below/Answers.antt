-- All rows below the height are filled.
use Rattle.std.proofs.Common.{arith}
use Rattle.lane_board.specs.Board.{field_of}
use Rattle.lane_board.proofs.BoardCuts.{filled_below}
use Rattle.lane_board.proofs.board.LaneBoard.rows_below.Goals as goal

pub returns : goal.returns
unfolding field_of
returns g c = filled_below c.args.height c.loop-y.y c.loop-y.rows (omega arith) c.loop-y.invariant.filled c.loop-y.invariant.empty
