-- The columns so far, the last of them lowest.
use Rattle.empty_cells.specs.Empties.{empty_cells}
use Rattle.empty_cells.proofs.Mirrors.{IsTurned}
use Rattle.empty_cells.proofs.empties.Empties.mirrored.Given as goal

abbrev pub invariant-loop-x : goal.invariant-loop-x
invariant-loop-x l = IsTurned (empty_cells l.self) l.cells l.x
