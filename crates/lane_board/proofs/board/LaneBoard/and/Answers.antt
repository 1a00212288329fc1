-- Row by row.
use Rattle.std.proofs.Common.{get_or, bit_and, ◌&&◌, refl, arith, rules}
use Rattle.std.proofs.lemmas.Nat.{and_le_l}
use Rattle.lane_board.specs.Board.{field_of}
use Rattle.lane_board.specs.Field.{intersection}
use Rattle.lane_board.proofs.RowBits.{has_bit-and}
use Rattle.lane_board.proofs.BoardRows.{each_in_columns, combined_cells}
use Rattle.lane_board.proofs.board.LaneBoard.and.Goals as goal

pub invariant_of-result-clause-in_columns : goal.invariant_of-result-clause-in_columns
invariant_of-result-clause-in_columns g c = each_in_columns g.row.N c.combined-rows.result (search rules) (λ y below. omega (arith, c.combined-rows.ensures y below, and_le_l (get_or c.args.self.now.rows y 0) (get_or c.args.other.now.rows y 0), c.args.self.now.in_columns y))

pub returns : goal.returns
unfolding field_of intersection
returns g c =
    combined_cells bit_and ◌&&◌ refl has_bit-and g.row.N c.args.self.now.rows c.args.other.now.rows c.combined-rows.result c.args.self.now.size c.args.other.now.size (search rules) c.combined-rows.ensures
