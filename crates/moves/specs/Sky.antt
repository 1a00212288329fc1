-- States above which the field is open.
use Rattle.std.specs.Prelude.{◌≡◌, ℕ, ◌≤◌, false, true, pos}
use Rattle.lane_board.specs.Field.{Field}
use Rattle.srs.specs.declared.placement.Placement.{Placement}
use Rattle.srs.specs.Cells.{cells_of, is_inside_of}
use Rattle.srs.specs.SameCells.{is_among}

-- the state is inside, and the field has no cell at or above any of its cells, in that cell's column
pub record IsUnderSky (F : Field) (state : Placement) : Type 0 where
  pub inside : is_inside_of state ≡ true
  pub clear : (x y k : ℕ) → is_among (cells_of state) (pos x, pos y) ≡ true → y ≤ k → F x k ≡ false
