-- What the loop of `Pattern::count_from` keeps.
use Rattle.std.proofs.Common.{take}
use Rattle.queue_pattern.specs.Builder.{Holds}
use Rattle.queue_pattern.proofs.pattern.Pattern.count_from.Given as goal

abbrev pub invariant-elements : goal.invariant-elements
invariant-elements l = Holds l.builder (take l.element-index l.element-items)
