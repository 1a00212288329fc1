-- A row of no bits has no column.
use Rattle.lane_board.specs.Board.{field_of}
use Rattle.lane_board.proofs.BoardRows.{cells_in-zeros}
use Rattle.lane_board.proofs.board.LaneBoard.empty.Goals as goal

pub returns : goal.returns
unfolding field_of
returns g c = cells_in-zeros g.row.N
