-- No index before this one has the piece.
use Rattle.empty_cells.specs.Empties.{empty_cells}
use Rattle.tiled_pieces.proofs.ListedLemmas.{NoneBefore}
use Rattle.tiled_pieces.proofs.listed.ListedTiling.has.Given as goal

abbrev pub invariant-loop-index : goal.invariant-loop-index
invariant-loop-index l = NoneBefore l.self (record { piece = l.piece; cells = empty_cells l.cells }) l.index
