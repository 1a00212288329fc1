-- The first rows are cleared.
use Rattle.fumen_pages.specs.Cells.{missing_count}
use Rattle.fumen_pages.proofs.RowLaws.{IsDone}
use Rattle.fumen_pages.proofs.NextLaws.{cleared_so_far}
use Rattle.fumen_pages.proofs.next.clear.Given as goal

abbrev pub invariant-loop-i : goal.invariant-loop-i
invariant-loop-i l = IsDone l.fn.cells l.cells (missing_count l.fn.dialect) l.i (cleared_so_far l.fn.dialect l.fn.cells l.i)
