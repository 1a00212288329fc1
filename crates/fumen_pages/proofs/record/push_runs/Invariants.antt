-- What is appended so far and the runs of what is left are the whole record.
use Rattle.std.proofs.Common.{◌-◌}
use Rattle.fumen_pages.proofs.WriteLoop.{AreWrittenSoFar}
use Rattle.fumen_pages.proofs.record.push_runs.Given as goal

abbrev pub invariant-loop-start : goal.invariant-loop-start
invariant-loop-start l = AreWrittenSoFar l.fn.dialect l.old l.new l.fn.out.items l.out.items l.start

abbrev pub decreases-loop-start : goal.decreases-loop-start
decreases-loop-start l = 240 - l.start
