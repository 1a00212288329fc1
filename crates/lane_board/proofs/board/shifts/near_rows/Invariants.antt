-- The eights so far are moved.
use Rattle.std.proofs.Common.{◌≡◌, ℕ, ◌*◌, ◌<◌, ◌-ℤ◌, pos, get_or}
use Rattle.lane_board.specs.Lanes.{moved_row, row_at}
use Rattle.lane_board.proofs.board.shifts.near_rows.Given as goal

abbrev pub invariant-loop-eight : goal.invariant-loop-eight
invariant-loop-eight g l = (y : ℕ) → y < 8 * l.eight → get_or l.moved y 0 ≡ moved_row l.dx (row_at l.rows (pos y -ℤ l.dy))
