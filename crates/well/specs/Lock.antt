-- A placement locks: its cells are filled, and full rows are removed.
use Rattle.std.specs.Prelude.{ℕ, ◌||◌, pos, List}
use Rattle.lane_board.specs.Field.{Field}
use Rattle.lane_board.specs.FullRows.{full_below, without_full_rows}
use Rattle.srs.specs.declared.placement.Placement.{Placement}
use Rattle.srs.specs.Cells.{Cell, cells_of}
use Rattle.srs.specs.SameCells.{cell_eq, is_among}

-- the field and one cell
unfoldable pub with_cell_at : Field → Cell → Field
with_cell_at F cell x y = F x y || cell_eq cell (pos x, pos y)

-- the field and the cells of a list
unfoldable pub with_cells : Field → List Cell → Field
with_cells F cells x y = F x y || is_among cells (pos x, pos y)

-- the field and the cells of the placement
unfoldable pub together : Field → Placement → Field
together F placement = with_cells F (cells_of placement)

-- the field that is left, and how many rows go
unfoldable pub locked : Field → Placement → Field
locked F placement = without_full_rows (together F placement) 23

unfoldable pub rows_removed : Field → Placement → ℕ
rows_removed F placement = full_below (together F placement) 23
