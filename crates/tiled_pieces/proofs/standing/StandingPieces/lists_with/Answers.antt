-- One piece after the other.
use Rattle.std.proofs.Common.{rules}
use Rattle.empty_cells.specs.Empties.{empty_cells}
use Rattle.tiled_pieces.proofs.StandingLemmas.{lists_all, lists_first, lists_more, lists_pass}
use Rattle.tiled_pieces.proofs.standing.StandingPieces.lists_with.Goals as goal
use Rattle.tiled_pieces.proofs.standing.StandingPieces.lists_with.Goals.{then-is_equal, else-is_equal}

pub loop-piece-init : goal.loop-piece-init
loop-piece-init c = lists_first c.deref-piece-items.result.now (empty_cells c.args.cells.now)

pub loop-piece-preserved : goal.loop-piece-preserved
loop-piece-preserved c = search (rules, lists_more, lists_pass)

pub returns : goal.returns
returns c = search (rules, lists_all)
