-- How a board is seen as a field.
use Rattle.std.specs.Prelude.{ℕ}
use Rattle.lane_board.specs.Field.{Field}
use Rattle.lane_board.specs.Lanes.{cells_of_bits}
use Rattle.lane_board.specs.declared.board.LaneBoard.{LaneBoard}

-- the cells of a board, which lie in columns 0 to 9 and rows 0 to N - 1
unfoldable pub field_of : {N : ℕ} → LaneBoard N → Field
field_of b = cells_of_bits b.rows
