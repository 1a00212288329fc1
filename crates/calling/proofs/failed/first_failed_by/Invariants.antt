-- The queues so far are good.
use Rattle.std.proofs.Common.{take}
use Rattle.std.specs.Prelude.{All}
use Rattle.percent.specs.Good.{Good}
use Rattle.calling.proofs.FailedQueues.{pattern_queues}
use Rattle.calling.proofs.failed.first_failed_by.Given as goal

abbrev pub invariant-loop-number : goal.invariant-loop-number
invariant-loop-number g l = All (Good l.problem) (take l.number (pattern_queues l.problem))
