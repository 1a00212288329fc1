-- Marks that are wanted: those of the rests asked about.
use Rattle.std.specs.Prelude.{◌≡◌, ℕ, true, List}
use Rattle.srs.specs.declared.piece.Piece.{Piece}
use Rattle.lane_board.specs.Lanes.{has_bit}
use Rattle.percent.specs.declared.marks.Mark.{Mark}
use Rattle.percent.specs.Marks.{IsMarkOf}

-- a mark of a rest and a piece is among those whose bits are set
pub record IsWanted (known : List Mark) (piece : Piece) (left rest wanted : ℕ) : Type 0 where
  pub index : ℕ
  pub mark : IsMarkOf known piece left rest index
  pub set : has_bit wanted index ≡ true
