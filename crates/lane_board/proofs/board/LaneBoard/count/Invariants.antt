-- The cells of the eights so far are counted.
use Rattle.std.proofs.Common.{◌≡◌, ◌*◌}
use Rattle.lane_board.specs.CellCount.{cell_count}
use Rattle.lane_board.specs.Lanes.{cells_of_bits}
use Rattle.lane_board.proofs.board.LaneBoard.count.Given as goal

abbrev pub invariant-loop-eight : goal.invariant-loop-eight
invariant-loop-eight g l = l.cells ≡ cell_count (cells_of_bits l.self.rows) (8 * l.eight)
