-- No first piece so far goes before the piece.
use Rattle.std.proofs.Common.{ℕ, ◌<◌, [], ◌∷◌, get_or}
use Rattle.srs.specs.declared.piece.Piece.TheVariants.{I}
use Rattle.hold_queue.specs.QueueSet.{QueuesPermit, queues_in_play}
use Rattle.calling.proofs.second.may_come_second.Given as goal

abbrev pub invariant-loop-first : goal.invariant-loop-first
invariant-loop-first l = (k : ℕ) → k < l.first-index → QueuesPermit (queues_in_play l.start) (get_or l.first-items k I ∷ l.piece ∷ []) → ⊥
