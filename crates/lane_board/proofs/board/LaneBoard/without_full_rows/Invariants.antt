-- The rows so far, without the full ones.
use Rattle.lane_board.proofs.RowRemoval.{IsCopied}
use Rattle.lane_board.proofs.board.LaneBoard.without_full_rows.Given as goal

abbrev pub invariant-loop-y : goal.invariant-loop-y
invariant-loop-y g l = IsCopied l.self.rows l.rows l.kept l.y
