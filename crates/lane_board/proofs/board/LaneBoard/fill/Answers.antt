-- One row has one more bit.
use Rattle.std.proofs.Common.{◌∙◌, length-set, rules}
use Rattle.lane_board.specs.Board.{field_of}
use Rattle.lane_board.proofs.RowBits.{has_bit-with, with_small}
use Rattle.lane_board.proofs.BoardRows.{cells_in-with, in_columns-set}
use Rattle.lane_board.proofs.board.LaneBoard.fill.Goals as goal

pub invariant_of-self-clause-in_columns : goal.invariant_of-self-clause-in_columns
invariant_of-self-clause-in_columns g c = search (rules, in_columns-set, with_small)

pub invariant_of-self-clause-size : goal.invariant_of-self-clause-size
invariant_of-self-clause-size g c =
    let b = c.args.self.now in
    length-set b.rows c.args.y _ ∙ b.size

pub returns : goal.returns
unfolding field_of
returns g c = search (rules, cells_in-with, has_bit-with)
