-- So many cells have the difference, and what is left completes them.
use Rattle.fumen_pages.proofs.WriteLoop.{AreCounted}
use Rattle.fumen_pages.proofs.record.same_count.Given as goal

abbrev pub invariant-loop-i : goal.invariant-loop-i
invariant-loop-i l = AreCounted l.shift l.old l.new l.i
