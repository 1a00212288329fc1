-- The sets so far.
use Rattle.std.proofs.Common.{◌-◌}
use Rattle.empty_cells.specs.Empties.{cells_by_column}
use Rattle.tiled_pieces.proofs.WalkSteps.{Walked}
use Rattle.tiled_pieces.proofs.walk.served.Given as goal

abbrev pub invariant-loop-set : goal.invariant-loop-set
invariant-loop-set l = Walked l.pieces l.drops l.allowed l.pending (cells_by_column l.cells) l.table l.found l.set

abbrev pub decreases-loop-set : goal.decreases-loop-set
decreases-loop-set l = l.sets - l.set
