-- One row more, and all that may have cells.
use Rattle.std.proofs.Common.{refl, ◌∙◌, arith, rules}
use Rattle.lane_board.specs.Board.{field_of}
use Rattle.lane_board.proofs.Removal.{without_full_rows-above}
use Rattle.lane_board.proofs.RowRemoval.{copied_none, copied_full, copied_row}
use Rattle.lane_board.proofs.board.LaneBoard.without_full_rows.Goals as goal
use Rattle.lane_board.proofs.board.LaneBoard.without_full_rows.Goals.{then-row-ne-FULL, else-row-ne-FULL}

pub loop-y-init : goal.loop-y-init
loop-y-init g c = copied_none c.args.self.now.rows g.row.N c.args.self.now.size

pub loop-y-preserved : goal.loop-y-preserved
loop-y-preserved g c =
    let b = c.args.self.now in
    elim c.if-row-ne-FULL.branch [
      | then-row-ne-FULL w ↦ copied_row b.rows _ _ _ _ c.loop-y.y _ refl w.rows-is w.kept-is (omega (arith, b.size)) (b.in_columns c.loop-y.y) w.if-row-ne-FULL.true c.loop-y.invariant
      | else-row-ne-FULL w ↦ copied_full b.rows _ _ _ _ c.loop-y.y _ refl w.rows-is w.kept-is (b.in_columns c.loop-y.y) w.if-row-ne-FULL.false c.loop-y.invariant
    ]

pub invariant_of-result-clause-in_columns : goal.invariant_of-result-clause-in_columns
invariant_of-result-clause-in_columns g c = c.loop-y.invariant.small

pub invariant_of-result-clause-size : goal.invariant_of-result-clause-size
invariant_of-result-clause-size g c = c.loop-y.invariant.size ∙ c.args.self.now.size

pub returns : goal.returns
unfolding field_of
returns g c = search (rules, without_full_rows-above)
