-- The tilings before this one that have the piece are kept.
use Rattle.empty_cells.specs.Empties.{empty_cells}
use Rattle.tiled_pieces.proofs.ListedLemmas.{KeptWith}
use Rattle.tiled_pieces.proofs.list.TilingList.with.Given as goal

abbrev pub invariant-loop-tiling : goal.invariant-loop-tiling
invariant-loop-tiling l = KeptWith l.tiling-items l.tilings.items (record { piece = l.piece; cells = empty_cells l.cells }) l.tiling-index
