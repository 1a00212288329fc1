-- The cells before start are new, and what is left of the old ones completes them.
use Rattle.std.proofs.Common.{◌-◌}
use Rattle.fumen_pages.proofs.RecordLoop.{AreReadSoFar}
use Rattle.fumen_pages.proofs.record.read_record.Given as goal

abbrev pub invariant-loop-start : goal.invariant-loop-start
invariant-loop-start l = AreReadSoFar l.fn.dialect l.fn.digits l.fn.place l.fn.old l.cells l.start l.behind

abbrev pub decreases-loop-start : goal.decreases-loop-start
decreases-loop-start l = 240 - l.start
