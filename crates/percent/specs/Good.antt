-- Good queues: those with a perfect clear.
use Rattle.std.specs.Prelude.{List}
use Rattle.srs.specs.declared.piece.Piece.{Piece}
use Rattle.srs.specs.declared.placement.Placement.{Placement}
use Rattle.hold_queue.specs.Permits.{Permits}
use Rattle.problem.specs.declared.problem.Problem.{Problem}
use Rattle.problem.specs.Solution.{PlaysIn, pieces_of}

-- some sequence plays in the problem, and the queue permits its pieces
pub record Good (problem : Problem) (queue : List Piece) : Type 0 where
  pub sequence : List Placement
  pub plays : PlaysIn problem sequence
  pub permitted : Permits problem.hold queue problem.held (pieces_of sequence)
