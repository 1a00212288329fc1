-- The rows so far that the set has are in their order.
use Rattle.std.proofs.Common.{◌≡◌, ◌<◌, ◌≤◌, ℕ, not, get_or, length}
use Rattle.lane_board.specs.Field.{Field}
use Rattle.lane_board.specs.FullRows.{is_full}
use Rattle.lane_board.specs.Lanes.{has_bit}
use Rattle.percent.proofs.SpreadLemmas.{Keeping}
use Rattle.percent.proofs.spread.rows_among.Given as goal

abbrev pub invariant-loop-y : goal.invariant-loop-y
invariant-loop-y l = record {
  few : l.count ≤ l.y;
  size : length l.kept ≡ 8;
  small : (k : ℕ) → k < 8 → get_or l.kept k 0 < 8;
  keeps : (G : Field) → ((y : ℕ) → y < l.height → has_bit l.set (get_or l.rows y 0) ≡ not (is_full G y)) → Keeping G l.rows l.kept l.count l.y;
}
