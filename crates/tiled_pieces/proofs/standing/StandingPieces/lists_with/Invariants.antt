-- The bits of the lists that have one of the pieces so far.
use Rattle.empty_cells.specs.Empties.{empty_cells}
use Rattle.tiled_pieces.proofs.StandingLemmas.{AreLists}
use Rattle.tiled_pieces.proofs.standing.StandingPieces.lists_with.Given as goal

abbrev pub invariant-loop-piece : goal.invariant-loop-piece
invariant-loop-piece l = AreLists l.piece-items (empty_cells l.cells) l.lists l.piece-index
