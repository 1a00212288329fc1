-- What the loops of `Pattern::queue` keep.
use Rattle.std.proofs.Common.{◌-◌, ◌+◌, drop}
use Rattle.queue_pattern.specs.Pattern.{elements_of}
use Rattle.queue_pattern.proofs.Standing.{Between, Within}
use Rattle.queue_pattern.proofs.pattern.Pattern.queue.Given as goal

abbrev pub invariant-pieces : goal.invariant-pieces
invariant-pieces l =
    Within (elements_of l.self) l.index l.self.pieces l.queue.items l.left l.block l.set (l.end - l.counter) (drop (l.element-index + 1) l.element-items)

abbrev pub invariant-elements : goal.invariant-elements
invariant-elements l =
    Between (elements_of l.self) l.index l.self.pieces l.queue.items l.left l.block (drop l.element-index l.element-items)
