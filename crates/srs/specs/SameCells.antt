-- When two lists of cells, or two placements, have the same cells.
use Rattle.std.specs.Prelude.{◌≡◌, Bool, ◌&&◌, List}
use Rattle.std.specs.List.{list_all, list_any}
use Rattle.std.specs.Ordering.{int_eq}
use Rattle.std.specs.Cmp.Lexicographic.{pointwise}
use Rattle.srs.specs.declared.placement.Placement.{Placement}
use Rattle.srs.specs.Cells.{Cell, cells_of}

-- whether two cells are the same
abbrev pub cell_eq : Cell → Cell → Bool
cell_eq c d = int_eq c.0 d.0 && int_eq c.1 d.1

-- whether two lists have the same cells in the same order
abbrev pub cells_eq : List Cell → List Cell → Bool
cells_eq = pointwise cell_eq

-- whether the cell is among these
unfoldable pub is_among : List Cell → Cell → Bool
is_among cells cell = list_any (λ c. cell_eq c cell) cells

-- as sets they are the same
pub record SameCells (xs ys : List Cell) : Type 0 where
  pub same : (cell : Cell) → is_among xs cell ≡ is_among ys cell

-- the test of `SameCells`
abbrev pub is_same_cells : List Cell → List Cell → Bool
is_same_cells xs ys = list_all (is_among ys) xs && list_all (is_among xs) ys

-- two placements have the same cells
abbrev pub HasSameCells : Placement → Placement → Type 0
HasSameCells s t = SameCells (cells_of s) (cells_of t)
