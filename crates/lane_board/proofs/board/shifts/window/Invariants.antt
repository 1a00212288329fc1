-- The eights so far are the rows from row `from` on.
use Rattle.std.proofs.Common.{◌≡◌, ℕ, ◌+◌, ◌*◌, ◌<◌, get_or}
use Rattle.lane_board.proofs.board.shifts.window.Given as goal

abbrev pub invariant-loop-eight : goal.invariant-loop-eight
invariant-loop-eight g l = (y : ℕ) → y < 8 * l.eight → get_or l.rows y 0 ≡ get_or l.framed (l.from + y) 0
