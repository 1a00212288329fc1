-- A field is a set of cells, given by a test on columns and rows; here are the operations on such sets.
use Rattle.std.specs.Prelude.{ℕ, ℤ, pos, ◌-ℤ◌, Bool, false, not, ◌&&◌, ◌||◌, ◌==◌, nat_lt}

-- whether the set has the cell in column x and row y
abbrev pub Field : Type 0
Field = ℕ → ℕ → Bool

unfoldable pub empty_field : Field
empty_field x y = false

unfoldable pub intersection : Field → Field → Field
intersection F G x y = F x y && G x y

unfoldable pub union : Field → Field → Field
union F G x y = F x y || G x y

-- the cells of F that are not in G
unfoldable pub difference : Field → Field → Field
difference F G x y = F x y && not (G x y)

-- F and the cell in this column and row
unfoldable pub with_cell : Field → ℕ → ℕ → Field
with_cell F column row x y = F x y || (x == column && y == row)

-- whether F has the cell at two whole numbers, of which a negative one is no place
unfoldable pub has_cell : Field → ℤ → ℤ → Bool
has_cell F (pos x) (pos y) = F x y
has_cell F _ _ = false

-- every cell of rows 0 to height - 1, in columns 0 to 9
unfoldable pub rows_below : ℕ → Field
rows_below height x y = nat_lt x 10 && nat_lt y height

-- The cells of F, each dx columns further to the right and dy rows further up. Cells that leave columns 0 to 9 or
-- rows 0 to height - 1 are dropped.
unfoldable pub moved_within : Field → ℕ → ℤ → ℤ → Field
moved_within F height dx dy x y = rows_below height x y && has_cell F (pos x -ℤ dx) (pos y -ℤ dy)
