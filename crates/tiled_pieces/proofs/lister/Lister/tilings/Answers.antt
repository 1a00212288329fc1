-- The list has all tilings.
use Rattle.prune.specs.Tiling.{supply_in}
use Rattle.empty_cells.specs.Empties.{empty_cells}
use Rattle.empty_cells.proofs.CallerLemmas.{cells_small}
use Rattle.tiled_pieces.proofs.ListedAll.{if_all, if_exact}
use Rattle.tiled_pieces.proofs.lister.Lister.tilings.Goals as goal

pub returns-clause-all : goal.returns-clause-all
returns-clause-all c = if_all (empty_cells c.args.cells.now) (supply_in c.args.supply.now) c.list.result c.list.ensures.all

pub returns-clause-exact : goal.returns-clause-exact
returns-clause-exact c = if_exact (empty_cells c.args.cells.now) (supply_in c.args.supply.now) c.list.result (cells_small c.args.cells.now) c.list.ensures.all c.list.ensures.only
