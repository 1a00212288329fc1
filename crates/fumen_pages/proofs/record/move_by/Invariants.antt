-- The first cells are moved.
use Rattle.fumen_pages.proofs.RecordLoop.{AreMoved}
use Rattle.fumen_pages.proofs.record.move_by.Given as goal

abbrev pub invariant-loop-cell : goal.invariant-loop-cell
invariant-loop-cell l = AreMoved l.fn.shift l.fn.cells l.cell-index l.cells
