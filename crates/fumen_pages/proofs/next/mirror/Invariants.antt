-- The first rows are mirrored.
use Rattle.fumen_pages.specs.Cells.{missing_count}
use Rattle.fumen_pages.proofs.RowLaws.{IsDone}
use Rattle.fumen_pages.proofs.NextLaws.{mirrored_so_far}
use Rattle.fumen_pages.proofs.next.mirror.Given as goal

abbrev pub invariant-loop-i : goal.invariant-loop-i
invariant-loop-i l = IsDone l.fn.cells l.cells (missing_count l.fn.dialect) l.i (mirrored_so_far l.fn.dialect l.fn.cells l.i)
