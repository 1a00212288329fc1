-- No tiling before this one has the piece.
use Rattle.empty_cells.specs.Empties.{empty_cells}
use Rattle.tiled_pieces.proofs.ListedLemmas.{NoneHave}
use Rattle.tiled_pieces.proofs.list.TilingList.has.Given as goal

abbrev pub invariant-loop-tiling : goal.invariant-loop-tiling
invariant-loop-tiling l = NoneHave l.tiling-items (record { piece = l.piece; cells = empty_cells l.cells }) l.tiling-index
