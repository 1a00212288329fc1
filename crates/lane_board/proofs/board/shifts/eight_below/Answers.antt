-- Of two eights that follow each other.
use Rattle.std.proofs.Common.{arith}
use Rattle.std.proofs.lemmas.Int.{ints}
use Rattle.lane_board.proofs.MovedLanes.{eight_higher, eight_lower}
use Rattle.lane_board.proofs.board.shifts.eight_below.Goals as goal

pub returns-then-dy-lt0-clause-lanes : goal.returns-then-dy-lt0-clause-lanes
returns-then-dy-lt0-clause-lanes c =
    eight_higher c.args.at _ c.args.dy c.args.rows.now c.load-lanes.result c.load_or_none.result c.eight_from.result (omega (arith, ints)) (omega (arith, ints)) c.load-lanes.ensures.eight c.load-lanes.ensures.lanes c.load_or_none.ensures.lanes c.eight_from.ensures.lanes

pub returns-clause-lanes : goal.returns-clause-lanes
returns-clause-lanes c =
    eight_lower c.args.at _ c.args.dy c.args.rows.now c.load_before.result c.load-lanes.result c.eight_from-2.result (omega (arith, ints)) (omega (arith, ints)) c.load_before.ensures.eight c.load-lanes.ensures.eight c.load-lanes.ensures.lanes c.load_before.ensures.lanes c.eight_from-2.ensures.lanes
