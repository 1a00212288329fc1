-- The boards agree in the eights so far.
use Rattle.std.proofs.Common.{◌≡◌, ℕ, ◌*◌, ◌<◌, get_or}
use Rattle.lane_board.proofs.board.LaneBoard.equal.Given as goal

abbrev pub invariant-loop-eight : goal.invariant-loop-eight
invariant-loop-eight g l = (y : ℕ) → y < 8 * l.eight → get_or l.self.rows y 0 ≡ get_or l.other.rows y 0
