-- The rotation is settled.
use Rattle.std.proofs.Common.{ap, ◌∙◌}
use Rattle.lane_board.specs.Board.{field_of}
use Rattle.lane_board.proofs.CallerLemmas.{field_of-within}
use Rattle.srs.specs.Rules.{table_of}
use Rattle.srs.specs.declared.rotation.Rotation.{Rotation}
use Rattle.place_sets.specs.States.{states_of}
use Rattle.whole_flood.specs.Flood.{Ground}
use Rattle.place_sets.proofs.CallerLemmas.{states_within}
use Rattle.whole_flood.proofs.SettleLemmas.{settled_by, turn_of}
use Rattle.whole_flood.proofs.flood.settle.Goals as goal

pub returns : goal.returns
returns g c =
    let ground : Ground = record { table = table_of c.args.rules.now; piece = c.args.piece; mode = c.args.mode; free = states_of c.args.free.now } in
    let lies = λ (r : Rotation). states_within c.args.free.now r in
    settled_by g.row.N ground lies c.args.rotation (states_of c.args.reached.now) c.shifts.result (field_of c.board.result.now) (field_of c.board-2.result.now) (field_of c.spread-wide.result)
    (states_of c.with-reached.result) (states_of c.turn-reached.result) (states_of c.turn.result)
    c.shifts.ensures c.board.ensures c.board-2.ensures c.spread-wide.ensures (record { inside = field_of-within c.spread-wide.result }) c.with-reached.ensures
    (c.turn-reached.ensures ∙ ap (λ (to : Rotation). turn_of g.row.N ground lies c.args.rotation to (states_of c.with-reached.result)) c.clockwise.ensures)
    (c.turn.ensures ∙ ap (λ (to : Rotation). turn_of g.row.N ground lies c.args.rotation to (states_of c.turn-reached.result)) c.anticlockwise.ensures)
