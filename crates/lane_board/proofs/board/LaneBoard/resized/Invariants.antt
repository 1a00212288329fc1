-- The eights so far are copied, and the other rows are empty.
use Rattle.std.proofs.Common.{◌*◌}
use Rattle.lane_board.proofs.BoardCuts.{IsCopiedBelow}
use Rattle.lane_board.proofs.board.LaneBoard.resized.Given as goal

abbrev pub invariant-loop-eight : goal.invariant-loop-eight
invariant-loop-eight g l = IsCopiedBelow l.self.rows l.rows g.row.M (8 * l.eight)
