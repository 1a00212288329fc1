-- Walls between columns, over which no piece reaches: a piece in two neighbouring columns has two cells side by side.
use Rattle.std.specs.Prelude.{◌≡◌, ◌≢◌, ℕ, ◌+◌, ◌-◌, ◌%◌, ◌<◌, ◌≤◌, false}
use Rattle.lane_board.specs.Field.{Field}
use Rattle.prune.specs.Counts.{run_empties}

-- A wall stands before a column: no row has an empty cell both there and in the column before. The sides of the field,
-- before column 0 and before column 10, are walls.
pub record IsWall (F : Field) (rows column : ℕ) : Type 0 where
  pub apart : 0 < column → column < 10 → (y : ℕ) → y < rows →
      F (column - 1) y ≡ false → F column y ≡ false → ⊥

-- the columns from one to another stand between two walls, and have a number of empty cells that is no multiple of four
pub record HasUnevenPart (F : Field) (rows : ℕ) : Type 0 where
  pub first : ℕ
  pub last : ℕ
  pub order : first ≤ last
  pub within : last ≤ 9
  pub left : IsWall F rows first
  pub right : IsWall F rows (last + 1)
  pub uneven : run_empties F rows first last % 4 ≢ 0
