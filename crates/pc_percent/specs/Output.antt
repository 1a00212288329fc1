-- What `percent` writes.
use Rattle.std.specs.Prelude.{◌≡◌, ◌↔◌, ℕ, Bool, List, IsTrue}
use Rattle.lane_board.specs.Field.{Field}
use Rattle.srs.specs.declared.piece.Piece.{Piece}
use Rattle.queue_pattern.specs.Pattern.{elements_of}
use Rattle.queue_pattern.specs.Queues.{queues}
use Rattle.problem.specs.declared.problem.Problem.{Problem}
use Rattle.percent.specs.Good.{Good}
use Rattle.pc_source.specs.Problem.{IsProblemOf}
use Rattle.pc_settings.specs.Request.{PercentRequest}
use Rattle.pc_percent.specs.Lines.{percent_form}

-- The lines about the queues of the problem that is asked about this field, by a test that passes exactly of the
-- good queues.
pub record IsAnsweredFor (request : PercentRequest) (F : Field) (output : List ℕ) : Type 0 where
  pub problem : Problem
  pub named : IsProblemOf request.common F problem
  pub is_good : List Piece → Bool
  pub decides : (queue : List Piece) → IsTrue (is_good queue) ↔ Good problem queue
  pub lines : output ≡ percent_form is_good request.failed (queues (elements_of problem.pattern))
