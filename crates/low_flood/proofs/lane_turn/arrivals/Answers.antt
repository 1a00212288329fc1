-- Five tests.
use Rattle.lane_board.specs.Board.{field_of}
use Rattle.lane_board.specs.Field.{empty_field}
use Rattle.lane_board.proofs.CallerLemmas.{field_of-within}
use Rattle.low_flood.proofs.LaneTests.{five_tests}
use Rattle.low_flood.proofs.lane_turn.arrivals.Goals as goal

pub returns : goal.returns
returns g c =
    five_tests g.row.N c.args.piece c.args.from c.args.to c.canonical_of.result (field_of c.args.free.now) (field_of c.inside_lanes-inside.result) (field_of c.args.states.now) (field_of c.empty.result) empty_field
    (field_of c.tested-one.result.left) (field_of c.tested-one.result.reached) (field_of c.tested-two.result.left) (field_of c.tested-two.result.reached) (field_of c.tested-three.result.left) (field_of c.tested-three.result.reached)
    (field_of c.tested-four.result.left) (field_of c.tested-four.result.reached) (field_of c.tested.result.left) (field_of c.tested.result.reached)
    c.lane_kick.result c.lane_kick-2.result c.lane_kick-3.result c.lane_kick-4.result c.lane_kick-5.result c.canonical_of.ensures (record { inside = field_of-within c.args.free.now }) c.inside_lanes-inside.ensures c.empty.ensures
    (record { inside = field_of-within c.args.states.now }) (record { inside = field_of-within c.tested-one.result.left }) (record { inside = field_of-within c.tested-two.result.left }) (record { inside = field_of-within c.tested-three.result.left }) (record { inside = field_of-within c.tested-four.result.left })
    c.lane_kick.ensures.change c.lane_kick-2.ensures.change c.lane_kick-3.ensures.change c.lane_kick-4.ensures.change c.lane_kick-5.ensures.change
    (record { left = c.tested-one.ensures.left; reached = c.tested-one.ensures.reached }) (record { left = c.tested-two.ensures.left; reached = c.tested-two.ensures.reached }) (record { left = c.tested-three.ensures.left; reached = c.tested-three.ensures.reached })
    (record { left = c.tested-four.ensures.left; reached = c.tested-four.ensures.reached }) (record { left = c.tested.ensures.left; reached = c.tested.ensures.reached })
