-- The bits of the eights so far.
use Rattle.std.proofs.Common.{◌≡◌, ℕ, ◌*◌, ◌^◌, ◌<◌, ◌==◌, get_or}
use Rattle.lane_board.specs.Lanes.{has_bit}
use Rattle.lane_board.proofs.board.LaneBoard.full_rows.Given as goal

abbrev pub invariant-loop-eight : goal.invariant-loop-eight
invariant-loop-eight g l = record {
  below : l.full < 2 ^ (8 * l.eight);
  told : (y : ℕ) → y < 8 * l.eight → has_bit l.full y ≡ (get_or l.self.rows y 0 == 1023);
}
