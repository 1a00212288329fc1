-- Questions: whether the empty cells of the lowest rows have a tiling with so many pieces of each kind.
use Rattle.std.specs.Prelude.{ℕ, List}
use Rattle.lane_board.specs.Field.{Field, intersection, rows_below}
use Rattle.prune.specs.Tiling.{Tiling, supply_in}

-- some cells, the rows in which a tiling is asked for, and the supply, in the order of piece codes
pub record Question : Type 0 where
  pub field : Field
  pub rows : ℕ
  pub supply : List ℕ

-- the question of a field, of which only the cells below the rows count
unfoldable pub question : Field → ℕ → List ℕ → Question
question F rows supply = record { field = intersection F (rows_below rows); rows = rows; supply = supply }

-- there is no tiling
abbrev pub HasNoTiling : Question → Type 0
HasNoTiling q = Tiling q.field q.rows (supply_in q.supply) → ⊥
