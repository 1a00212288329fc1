-- One more eight is combined.
use Rattle.std.proofs.Common.{◌+◌, ◌*◌, ◌≤◌, length, get_or, arith, rules}
use Rattle.lane_board.proofs.EightRows.{written_more, combined_lanes}
use Rattle.lane_board.proofs.eights.combined.Goals as goal

pub loop-eight-preserved : goal.loop-eight-preserved
loop-eight-preserved g c =
    let of_rows = g.C.Combine.of_rows in
    let at = 8 * c.loop-eight.eight in
    let within : at + 8 ≤ length c.loop-eight.rows = search rules in
    let new = combined_lanes of_rows at c.args.a.now c.args.b.now _ _ _ c.load-left.ensures.lanes c.load-left.ensures.eight c.load-right.ensures.lanes c.load-right.ensures.eight c.of_lanes.ensures in
    written_more (λ y. of_rows (get_or c.args.a.now y 0) (get_or c.args.b.now y 0)) at _ _ _ _ (omega arith) within new.0 c.store.ensures new.1 c.loop-eight.invariant
