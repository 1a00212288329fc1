-- Queues that begin with the same pieces.
use Rattle.std.specs.Prelude.{◌≡◌, ℕ, ◌<◌, ◌≤◌, List, Some, slice_get}
use Rattle.srs.specs.declared.piece.Piece.{Piece}
use Rattle.hold_queue.specs.Hand.{HasSameFront}

-- the queues from one number to before another have the same first so many pieces as this one
pub record ShareFront (queues : List (List Piece)) (count : ℕ) (queue : List Piece) (from to : ℕ) : Type 0 where
  pub each : (number : ℕ) (other : List Piece) → from ≤ number → number < to → slice_get queues number ≡ Some other
      → HasSameFront count queue other
