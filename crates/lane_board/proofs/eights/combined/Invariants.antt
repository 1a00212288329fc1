-- The rows of the eights so far are combined.
use Rattle.std.proofs.Common.{◌≡◌, ℕ, ◌*◌, ◌<◌, get_or}
use Rattle.lane_board.proofs.eights.combined.Given as goal

abbrev pub invariant-loop-eight : goal.invariant-loop-eight
invariant-loop-eight g l = (y : ℕ) → y < 8 * l.eight → get_or l.rows y 0 ≡ g.C.Combine.of_rows (get_or l.a y 0) (get_or l.b y 0)
