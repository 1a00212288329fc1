-- The pieces so far.
use Rattle.std.proofs.Common.{◌≡◌, ◌*◌, ◌^◌, ◌<◌, ◌≤◌}
use Rattle.empty_cells.specs.Empties.{cells_by_column}
use Rattle.tiled_pieces.specs.Orders.{left_after, number_after}
use Rattle.tiled_pieces.proofs.walk.after.Given as goal

abbrev pub invariant-loop-index : goal.invariant-loop-index
invariant-loop-index l = (l.left < 2 ^ 80)
    × (cells_by_column l.left ≡ left_after l.pieces (cells_by_column l.cells) l.set l.index)
    × (l.number ≡ number_after l.pieces l.set l.index)
    × (l.number ≤ 65535 * l.index)
