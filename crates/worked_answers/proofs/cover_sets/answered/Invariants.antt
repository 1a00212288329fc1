-- No more queues are counted than were looked at.
use Rattle.std.proofs.Common.{◌≤◌}
use Rattle.worked_answers.proofs.cover_sets.answered.Given as goal

abbrev pub invariant-loop-number : goal.invariant-loop-number
invariant-loop-number g l = l.count ≤ l.number
