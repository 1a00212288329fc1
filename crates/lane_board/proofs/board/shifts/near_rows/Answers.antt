-- One more eight is moved.
use Rattle.std.proofs.Common.{◌+◌, ◌*◌, ◌≤◌, ◌-ℤ◌, pos, length, arith, rules}
use Rattle.lane_board.specs.Lanes.{moved_row, row_at}
use Rattle.lane_board.proofs.EightRows.{written_more}
use Rattle.lane_board.proofs.MovedLanes.{lane_near}
use Rattle.lane_board.proofs.board.shifts.near_rows.Goals as goal

pub loop-eight-preserved : goal.loop-eight-preserved
loop-eight-preserved g c =
    let at = 8 * c.loop-eight.eight in
    let rows = c.args.rows.now in
    let within : at + 8 ≤ length c.loop-eight.moved = search rules in
    written_more (λ y. moved_row _ (row_at rows (pos y -ℤ _))) at _ _ _ _ (omega arith) within c.moved_columns.ensures.eight c.store.ensures
    (lane_near _ _ at rows c.eight_below.result c.moved_columns.result c.eight_below.ensures.lanes c.eight_below.ensures.eight c.moved_columns.ensures.lanes) c.loop-eight.invariant
