-- Cells whose rows are sent to others.
use Rattle.std.specs.Prelude.{ℕ, pos, negsuc, List, map, slice_index}
use Rattle.lane_board.specs.Field.{Field}
use Rattle.srs.specs.declared.placement.Placement.{Placement}
use Rattle.srs.specs.Cells.{Cell, cells_of}
use Rattle.srs.specs.SameCells.{is_among}

-- a cell in its column, and in the row to which its row is sent
unfoldable pub sent_up : List ℕ → Cell → Cell
sent_up rows (x, pos y) = (x, pos (slice_index rows y))
sent_up rows (x, negsuc y) = (x, negsuc y)

-- the cells of a placement, each sent so
unfoldable pub sent_cells : List ℕ → Placement → Field
sent_cells rows placement x y = is_among (map (sent_up rows) (cells_of placement)) (pos x, pos y)
