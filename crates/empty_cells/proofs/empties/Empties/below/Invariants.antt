-- The empty cells of the rows so far.
use Rattle.well.specs.Well.{filled}
use Rattle.empty_cells.proofs.FoundCells.{IsFound}
use Rattle.empty_cells.proofs.empties.Empties.below.Given as goal

abbrev pub invariant-loop-y : goal.invariant-loop-y
invariant-loop-y l = IsFound (filled l.well) l.cells l.y
