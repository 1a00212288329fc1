-- How many places a piece has, and how many solutions a problem: as many as their rising list has members.
use Rattle.std.specs.Prelude.{◌≡◌, ℕ, None, List, length, min}
use Rattle.lane_board.specs.Field.{Field}
use Rattle.srs.specs.declared.piece.Piece.{Piece}
use Rattle.srs.specs.declared.placement.Placement.{Placement}
use Rattle.srs.specs.Kick.{Table}
use Rattle.srs.specs.Order.{placement_cmp}
use Rattle.srs.specs.Rising.{IsRisingListOf}
use Rattle.moves.specs.declared.key.DropMode.{DropMode}
use Rattle.moves.specs.Place.{IsPlace}
use Rattle.problem.specs.declared.problem.Problem.{Problem}
use Rattle.problem.specs.SolutionList.{IsList}

-- the places of a piece are so many
pub record IsPlaceCount (table : Table) (F : Field) (mode : DropMode) (piece : Piece) (count : ℕ) : Type 0 where
  pub places : List Placement
  pub listed : IsRisingListOf placement_cmp (λ q. (q.piece ≡ piece) × IsPlace table F mode q) places
  pub counted : count ≡ length places

-- the solutions of a problem are so many, or the limit where there are more
pub record IsSolutionCount (problem : Problem) (limit count : ℕ) : Type 0 where
  pub solutions : List (List Placement)
  pub listed : IsList (record { problem = problem; queue = None; bound = None }) solutions
  pub counted : count ≡ min limit (length solutions)
