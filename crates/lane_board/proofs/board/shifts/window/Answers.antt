-- One more eight is copied.
use Rattle.std.proofs.Common.{◌+◌, ◌*◌, ◌≤◌, length, get_or, ap, ◌∙◌, arith, rules}
use Rattle.lane_board.proofs.EightRows.{written_more, loaded}
use Rattle.lane_board.proofs.board.shifts.window.Goals as goal

pub loop-eight-preserved : goal.loop-eight-preserved
loop-eight-preserved g c =
    let at = 8 * c.loop-eight.eight in
    let from = c.args.from in
    let within : at + 8 ≤ length c.loop-eight.rows = search rules in
    written_more (λ y. get_or c.args.framed.now (from + y) 0) at _ _ c.load.result _ (omega arith) within c.load.ensures.eight c.store.ensures
    (λ k below. loaded (from + at) k c.args.framed.now c.load.result c.load.ensures.lanes below ∙ ap (λ j. get_or c.args.framed.now j 0) (omega arith))
    c.loop-eight.invariant
