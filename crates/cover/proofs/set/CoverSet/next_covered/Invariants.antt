-- No queue from the bound to before the number permits a kept list.
use Rattle.std.proofs.Common.{◌-◌, length}
use Rattle.queue_pattern.specs.Pattern.{elements_of}
use Rattle.queue_pattern.specs.Queues.{queues}
use Rattle.cover.specs.Kept.{lists_of, kept_problem}
use Rattle.cover.proofs.NextLemmas.{NoneBetween}
use Rattle.cover.proofs.set.CoverSet.next_covered.Given as goal

abbrev pub invariant-loop-number : goal.invariant-loop-number
invariant-loop-number l = NoneBetween (kept_problem l.self) (lists_of l.self) l.from l.number

abbrev pub decreases-loop-number : goal.decreases-loop-number
decreases-loop-number l = length (queues (elements_of (kept_problem l.self).pattern)) - l.number
