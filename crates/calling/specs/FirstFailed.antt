-- The first queue of a pattern that has no perfect clear.
use Rattle.std.specs.Prelude.{◌≡◌, All, List, ◌∷◌, ◌++◌, Option, Some, None}
use Rattle.srs.specs.declared.piece.Piece.{Piece}
use Rattle.queue_pattern.specs.Pattern.{elements_of}
use Rattle.queue_pattern.specs.Queues.{queues}
use Rattle.problem.specs.declared.problem.Problem.{Problem}
use Rattle.percent.specs.Good.{Good}

-- all queues before this one are good, and it is not
pub record FailsFirst (problem : Problem) (queue : List Piece) : Type 0 where
  pub before : List (List Piece)
  pub behind : List (List Piece)
  pub stands : queues (elements_of problem.pattern) ≡ before ++ queue ∷ behind
  pub good : All (Good problem) before
  pub failed : Good problem queue → ⊥

-- this queue fails first, or none fails
abbrev pub IsFirstFailed : Problem → Option (List Piece) → Type 0
IsFirstFailed problem None = All (Good problem) (queues (elements_of problem.pattern))
IsFirstFailed problem (Some queue) = FailsFirst problem queue
