-- What the loops of `Pattern::from_queue` keep.
use Rattle.std.proofs.Common.{take}
use Rattle.queue_pattern.specs.Builder.{Holds}
use Rattle.queue_pattern.specs.Grammar.{singles}
use Rattle.queue_pattern.proofs.pattern.Pattern.from_queue.Given as goal

abbrev pub invariant-pieces : goal.invariant-pieces
invariant-pieces l = Holds l.builder (singles (take l.piece-index l.queue.items))
