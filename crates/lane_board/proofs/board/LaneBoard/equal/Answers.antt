-- Boards with the same cells have the same rows.
use Rattle.std.proofs.Common.{rules}
use Rattle.std.proofs.lemmas.Bool.{false≢true, both_ways}
use Rattle.lane_board.specs.Board.{field_of}
use Rattle.lane_board.proofs.BoardRows.{same_cells, in_eights}
use Rattle.lane_board.proofs.board.LaneBoard.equal.Goals as goal

pub returns-then-not-agree : goal.returns-then-not-agree
unfolding field_of
returns-then-not-agree g c = search (rules, same_cells, false≢true, both_ways)

pub returns : goal.returns
unfolding field_of
returns g c = search (rules, same_cells, in_eights)
