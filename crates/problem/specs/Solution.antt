-- The solutions of a problem.
use Rattle.std.specs.Prelude.{List, [], ◌∷◌, map, Option, Some, None}
use Rattle.srs.specs.declared.piece.Piece.{Piece}
use Rattle.srs.specs.declared.placement.Placement.{Placement}
use Rattle.srs.specs.Rules.{table_of}
use Rattle.well.specs.Well.{filled}
use Rattle.queue_pattern.specs.Pattern.{elements_of}
use Rattle.queue_pattern.specs.Queues.{queues}
use Rattle.hold_queue.specs.Permits.{SomePermits}
use Rattle.problem.specs.declared.problem.Problem.{Problem}
use Rattle.problem.specs.Plays.{Plays}

-- the pieces of a sequence
abbrev pub pieces_of : List Placement → List Piece
pieces_of sequence = map (λ placement. placement.piece) sequence

-- the queues that count: one of them alone, or all of the pattern
abbrev pub queues_that_count : Problem → Option (List Piece) → List (List Piece)
queues_that_count problem None = queues (elements_of problem.pattern)
queues_that_count problem (Some queue) = queue ∷ []

-- the sequence clears the field of the problem
abbrev pub PlaysIn : Problem → List Placement → Type 0
PlaysIn problem sequence =
    Plays (table_of problem.rules) problem.drop_mode (filled problem.well) problem.height sequence

-- the sequence clears the field, and one of the queues permits its pieces
pub record IsSolution (problem : Problem) (queue : Option (List Piece)) (sequence : List Placement) : Type 0 where
  pub plays : PlaysIn problem sequence
  pub permitted : SomePermits problem.hold (queues_that_count problem queue) problem.held (pieces_of sequence)
