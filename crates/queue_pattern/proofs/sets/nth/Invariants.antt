-- What the loops of `nth` keep.
use Rattle.std.proofs.Common.{◌≡◌, drop}
use Rattle.std.specs.List.{slice_get}
use Rattle.queue_pattern.specs.Queues.{pieces_in}
use Rattle.queue_pattern.proofs.SetLemmas.{members}
use Rattle.queue_pattern.proofs.sets.nth.Given as goal

abbrev pub invariant-loop-piece : goal.invariant-loop-piece
invariant-loop-piece l = slice_get (pieces_in l.set) l.fn.number ≡ slice_get (members l.set (drop l.piece-index l.piece-items)) l.left
