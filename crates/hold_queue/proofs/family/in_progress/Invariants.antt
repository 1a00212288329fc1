-- What the loops of `in_progress` keep.
use Rattle.std.proofs.Common.{◌≡◌, drop}
use Rattle.queue_pattern.specs.Pattern.{elements_of}
use Rattle.hold_queue.specs.States.{in_progress}
use Rattle.hold_queue.proofs.family.in_progress.Given as goal

abbrev pub invariant-loop-index : goal.invariant-loop-index
invariant-loop-index l = in_progress (drop l.index (elements_of l.pattern)) l.left ≡ in_progress (elements_of l.pattern) l.fn.drawn
