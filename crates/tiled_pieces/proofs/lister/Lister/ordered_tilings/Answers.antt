-- The list has those whose rows can go.
use Rattle.prune.specs.Tiling.{supply_in}
use Rattle.empty_cells.specs.Empties.{empty_cells}
use Rattle.tiled_pieces.proofs.ListedAll.{if_ordered}
use Rattle.tiled_pieces.proofs.lister.Lister.ordered_tilings.Goals as goal

pub returns-clause-all : goal.returns-clause-all
returns-clause-all c = if_ordered (empty_cells c.args.cells.now) (supply_in c.args.supply.now) c.list.result c.list.ensures.all
