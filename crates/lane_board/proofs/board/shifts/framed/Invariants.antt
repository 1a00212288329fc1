-- The eights so far are moved into the frame.
use Rattle.std.proofs.Common.{◌+◌, ◌*◌}
use Rattle.lane_board.proofs.MovedLanes.{IsFramed}
use Rattle.lane_board.proofs.board.shifts.framed.Given as goal

abbrev pub invariant-loop-eight : goal.invariant-loop-eight
invariant-loop-eight g l = IsFramed l.dx l.rows l.framed (9 + 8 * l.eight)
