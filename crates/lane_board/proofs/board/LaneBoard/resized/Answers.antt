-- One more eight, and all that both boards have.
use Rattle.std.proofs.Common.{ℕ, ◌+◌, ◌*◌, ◌≤◌, length, arith, rules}
use Rattle.std.proofs.lemmas.List.{length-replicate}
use Rattle.lane_board.specs.Board.{field_of}
use Rattle.lane_board.proofs.BoardCuts.{copied_more, copied_all, copied_in_columns}
use Rattle.lane_board.proofs.BoardRows.{in_eights, zero_at}
use Rattle.lane_board.proofs.board.LaneBoard.resized.Goals as goal

pub loop-eight-init : goal.loop-eight-init
loop-eight-init g c = record { copied = λ y below. absurd (omega arith); empty = λ y _. zero_at g.row.M y; size_is = length-replicate {A = ℕ} g.row.M 0 }

pub loop-eight-preserved : goal.loop-eight-preserved
loop-eight-preserved g c =
    let at = 8 * c.loop-eight.eight in
    let within : at + 8 ≤ length c.loop-eight.rows = omega (arith, c.loop-eight.invariant.size_is, c.min-eight-end.ensures) in
    copied_more g.row.M at _ c.args.self.now.rows c.loop-eight.rows _ _ (omega arith) within c.load.ensures.lanes c.load.ensures.eight c.store.ensures c.loop-eight.invariant

pub invariant_of-result-clause-in_columns : goal.invariant_of-result-clause-in_columns
invariant_of-result-clause-in_columns g c = search (rules, copied_in_columns)

pub returns : goal.returns
unfolding field_of
returns g c = search (rules, in_eights, copied_all)
