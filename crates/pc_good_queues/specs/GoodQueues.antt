-- Which queues are good, as bits.
use Rattle.std.specs.Prelude.{◌≡◌, ◌↔◌, ℕ, Bool, List, IsTrue, count_by, length, map}
use Rattle.lane_board.specs.Field.{Field}
use Rattle.srs.specs.declared.piece.Piece.{Piece}
use Rattle.queue_pattern.specs.Pattern.{elements_of}
use Rattle.queue_pattern.specs.Queues.{queues}
use Rattle.problem.specs.declared.problem.Problem.{Problem}
use Rattle.percent.specs.Good.{Good}
use Rattle.pc_settings.specs.Request.{FieldRequest}
use Rattle.pc_source.specs.FieldText.{IsFieldOf, of_source}
use Rattle.pc_source.specs.Problem.{IsProblemOf}
use Rattle.pc_good_queues.specs.Bits.{AreBitsOf}

-- Of the queues of the problem that is asked about, where the source has these bytes: a bit for each, 1 where it is
-- good, and how many there are, and how many good ones.
pub record AreGoodQueues (request : FieldRequest) (bytes written : List ℕ) (count good : ℕ) : Type 0 where
  pub field : Field
  pub asked : IsFieldOf request.field request.page (of_source bytes) field
  pub problem : Problem
  pub named : IsProblemOf request field problem
  pub is_good : List Piece → Bool
  pub decides : (queue : List Piece) → IsTrue (is_good queue) ↔ Good problem queue
  pub bits : AreBitsOf (map is_good (queues (elements_of problem.pattern))) written
  pub all : count ≡ length (queues (elements_of problem.pattern))
  pub good_ones : good ≡ count_by is_good (queues (elements_of problem.pattern))
