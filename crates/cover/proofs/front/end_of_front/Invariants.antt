-- The queues up to the last one that was looked at begin alike.
use Rattle.std.proofs.Common.{◌-◌}
use Rattle.queue_pattern.specs.Pattern.{elements_of}
use Rattle.queue_pattern.specs.Queues.{queues}
use Rattle.cover.proofs.FrontLemmas.{BeginAlike}
use Rattle.cover.proofs.front.end_of_front.Given as goal

abbrev pub invariant-loop-end : goal.invariant-loop-end
invariant-loop-end l = BeginAlike (queues (elements_of l.pattern)) l.count l.queue.items l.number l.last l.end l.step

abbrev pub decreases-loop-end : goal.decreases-loop-end
decreases-loop-end l = l.end - l.last
