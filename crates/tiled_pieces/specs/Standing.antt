-- Pieces that stand in the tilings of lists.
use Rattle.std.specs.Prelude.{◌≡◌, ◌↔◌, ◌⊎◌, ℕ, List}
use Rattle.std.specs.List.{Contains}
use Rattle.lane_board.specs.Field.{Field}
use Rattle.empty_cells.specs.Empties.{empty_cells}
use Rattle.tiled_pieces.specs.declared.standing.StandingPiece.{StandingPiece}

-- a piece with these cells stands in a tiling of the list with this number
pub record Stands (pieces : List StandingPiece) (cells : Field) (number : ℕ) : Type 0 where
  pub piece : StandingPiece
  pub there : Contains pieces piece
  pub same : empty_cells piece.cells ≡ cells
  pub list : piece.list ≡ number

-- pieces with such cells are added for the list with this number, and nothing else
pub record GrowsBy (before after : List StandingPiece) (number : ℕ) (Such : Field → Type 0) : Type 0 where
  pub both : (cells : Field) (other : ℕ)
      → Stands after cells other ↔ (Stands before cells other ⊎ ((other ≡ number) × Such cells))
