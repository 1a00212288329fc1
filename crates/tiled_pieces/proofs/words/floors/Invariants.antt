-- The rows so far.
use Rattle.empty_cells.specs.Empties.{cells_by_column}
use Rattle.tiled_pieces.proofs.FloorSteps.{Floored}
use Rattle.tiled_pieces.proofs.words.floors.Given as goal

abbrev pub invariant-loop-y : goal.invariant-loop-y
invariant-loop-y l = Floored (cells_by_column l.cells) l.floors l.y
