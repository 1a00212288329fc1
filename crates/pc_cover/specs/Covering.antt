-- Which lists are kept of some sequences, and which queues permit one of them, by a test.
use Rattle.std.specs.Prelude.{◌≡◌, ◌↔◌, ℕ, ◌-◌, Bool, List, [], Contains, filter, length, slice_index_or}
use Rattle.std.specs.List.{list_any, range_with_len}
use Rattle.srs.specs.declared.piece.Piece.{Piece}
use Rattle.srs.specs.declared.placement.Placement.{Placement}
use Rattle.queue_pattern.specs.Pattern.{elements_of}
use Rattle.queue_pattern.specs.Queues.{queues}
use Rattle.hold_queue.specs.Permits.{permits}
use Rattle.problem.specs.declared.problem.Problem.{Problem}
use Rattle.problem.specs.Solution.{PlaysIn, pieces_of}

-- the kinds of one of these sequences, which clears the field
pub record AreKinds (problem : Problem) (sequences : List (List Placement)) (kinds : List Piece) : Type 0 where
  pub sequence : List Placement
  pub given : Contains sequences sequence
  pub plays : PlaysIn problem sequence
  pub are : pieces_of sequence ≡ kinds

-- just the kinds of those that clear the field are kept
pub record KeepsKindsOf (problem : Problem) (lists : List (List Piece))
    (sequences : List (List Placement)) : Type 0 where
  pub each : (kinds : List Piece) → Contains lists kinds ↔ AreKinds problem sequences kinds

-- the queue with this number permits one of these lists
unfoldable pub permits_one : Problem → List (List Piece) → ℕ → Bool
permits_one problem lists number =
    list_any (permits problem.hold (slice_index_or (queues (elements_of problem.pattern)) number []) problem.held) lists

-- the numbers of such queues from one on
unfoldable pub numbers_from : Problem → List (List Piece) → ℕ → List ℕ
numbers_from problem lists from =
    filter (permits_one problem lists) (range_with_len from (length (queues (elements_of problem.pattern)) - from))
