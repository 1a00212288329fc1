-- What contracts see of a set of empty cells.
use Rattle.std.specs.Prelude.{ℕ, ◌+◌, ◌*◌, Bool, not, ◌&&◌, nat_lt, pos}
use Rattle.lane_board.specs.Field.{Field, has_cell}
use Rattle.lane_board.specs.Lanes.{has_bit}
use Rattle.srs.specs.declared.placement.Placement.{Placement}
use Rattle.srs.specs.Cells.{Cell, cells_of}
use Rattle.srs.specs.SameCells.{is_among}
use Rattle.empty_cells.specs.declared.empties.Empties.{Empties}

-- the cells in rows 0 to 7 that the bits of a number stand for, column by column: bit 8 * column + row
unfoldable pub cells_by_column : ℕ → Field
cells_by_column cells x y = nat_lt y 8 && has_bit cells (8 * x + y)

-- the cells of the set, which lie in columns 0 to 9 and rows 0 to 7
unfoldable pub empty_cells : Empties → Field
empty_cells empties = cells_by_column empties.cells

-- the field in which all cells but those of the set are filled
unfoldable pub all_but : Field → Field
all_but E x y = not (E x y)

-- the set without the cells of a placement
unfoldable pub without_placement : Field → Placement → Field
without_placement E placement x y = E x y && not (is_among (cells_of placement) (pos x, pos y))

-- the set has a cell
abbrev pub has_cell_at : Field → Cell → Bool
has_cell_at E cell = has_cell E cell.0 cell.1
