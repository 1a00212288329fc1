-- The slots so far.
use Rattle.std.proofs.Common.{◌≡◌, ◌≤◌, length, take}
use Rattle.empty_cells.specs.Empties.{cells_by_column}
use Rattle.tiled_pieces.specs.Orders.{HasThose}
use Rattle.tiled_pieces.specs.TilingLists.{most_pieces}
use Rattle.tiled_pieces.proofs.hands.those_in.Given as goal

abbrev pub invariant-loop-index : goal.invariant-loop-index
invariant-loop-index l = (l.count ≤ l.index) × (length l.pieces ≡ most_pieces) × HasThose l.tiling (cells_by_column l.cells) l.weights (take l.count l.pieces) l.index
