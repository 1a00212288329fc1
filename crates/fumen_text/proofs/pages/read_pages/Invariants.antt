-- The pages read so far, and what is left completes all.
use Rattle.std.proofs.Common.{◌-◌, length}
use Rattle.fumen_pages.specs.Lists.{most_pages}
use Rattle.fumen_text.proofs.ReadLoop.{IsReadSoFar}
use Rattle.fumen_text.proofs.pages.read_pages.Given as goal

abbrev pub invariant-loop-alloc : goal.invariant-loop-alloc
invariant-loop-alloc l = IsReadSoFar l.dialect l.digits most_pages l.pages.items l.at

abbrev pub decreases-loop-alloc : goal.decreases-loop-alloc
decreases-loop-alloc l = most_pages - length l.pages.items
