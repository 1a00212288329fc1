-- Each row is the moved row so many rows further down.
use Rattle.std.proofs.Common.{rules}
use Rattle.std.proofs.lemmas.Int.{to_z-of_z}
use Rattle.lane_board.specs.Board.{field_of}
use Rattle.lane_board.proofs.MovedRows.{moved_cells, moved_in_columns}
use Rattle.lane_board.proofs.board.LaneBoard.moved.Goals as goal

pub invariant_of-result-clause-in_columns : goal.invariant_of-result-clause-in_columns
invariant_of-result-clause-in_columns g c =
    let b = c.args.self.now in
    moved_in_columns _ _ g.row.N b.rows c.moved_rows-rows.result (search rules) b.in_columns c.moved_rows-rows.ensures

pub returns : goal.returns
unfolding field_of
returns g c = search (rules, moved_cells, to_z-of_z)
