-- The rows so far have all columns, and the others none.
use Rattle.std.proofs.Common.{◌≡◌, ℕ, ◌<◌, ◌≤◌, length, get_or}
use Rattle.lane_board.proofs.board.LaneBoard.rows_below.Given as goal

abbrev pub invariant-loop-y : goal.invariant-loop-y
invariant-loop-y g l = record {
  filled : (y : ℕ) → y < l.y → get_or l.rows y 0 ≡ 1023;
  empty : (y : ℕ) → l.y ≤ y → get_or l.rows y 0 ≡ 0;
  size : length l.rows ≡ g.row.N;
}
