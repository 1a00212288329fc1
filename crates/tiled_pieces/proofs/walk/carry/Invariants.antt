-- The pieces so far.
use Rattle.std.proofs.Common.{◌≡◌, length}
use Rattle.empty_cells.specs.Empties.{cells_by_column}
use Rattle.tiled_pieces.specs.Orders.{Carries}
use Rattle.tiled_pieces.proofs.walk.carry.Given as goal

abbrev pub invariant-loop-index : goal.invariant-loop-index
invariant-loop-index l = (length l.table ≡ 512) × Carries l.pieces l.left.drops l.allowed l.hands l.set (cells_by_column l.left.cells) l.number l.initial.table l.table l.index
