-- The rising list of the solutions of a problem that one queue alone or any of its queues permits, after a bound where
-- there is one.
use Rattle.std.specs.Prelude.{◌≡◌, List, [], ◌∷◌, ◌++◌, Option, IsTrue}
use Rattle.srs.specs.declared.piece.Piece.{Piece}
use Rattle.srs.specs.declared.placement.Placement.{Placement}
use Rattle.srs.specs.Order.{sequence_cmp}
use Rattle.srs.specs.Rising.{is_above, IsRisingListOf}
use Rattle.problem.specs.declared.problem.Problem.{Problem}
use Rattle.problem.specs.Solution.{IsSolution}

pub record View : Type 0 where
  pub problem : Problem
  pub queue : Option (List Piece)
  pub bound : Option (List Placement)

-- a solution that comes after the bound
pub record IsSolutionAbove (view : View) (sequence : List Placement) : Type 0 where
  pub solution : IsSolution view.problem view.queue sequence
  pub above : IsTrue (is_above sequence_cmp view.bound sequence)

-- the strictly rising list of all solutions after the bound
abbrev pub IsList : View → List (List Placement) → Type 0
IsList view sequences = IsRisingListOf sequence_cmp (IsSolutionAbove view) sequences

-- the members up to a sequence, and those after it
pub record Resumes (whole : List (List Placement)) (s : List Placement) (rest : List (List Placement)) : Type 0 where
  pub front : List (List Placement)
  pub joined : whole ≡ (front ++ s ∷ []) ++ rest
