-- What the walk has added to an empty list is handed out.
use Rattle.prune.specs.Tiling.{supply_in}
use Rattle.empty_cells.specs.Empties.{empty_cells}
use Rattle.empty_cells.proofs.CallerLemmas.{cells_small}
use Rattle.tiled_pieces.proofs.ListedAll.{listed}
use Rattle.tiled_pieces.proofs.lister.Lister.list.Goals as goal

pub returns-clause-all : goal.returns-clause-all
returns-clause-all c = (listed c.args.is_ordered (supply_in c.args.supply.now) (empty_cells c.args.cells.now) c.new.result c.search.new.self.listing c.new-3.result _ c.replace-tilings.result (cells_small c.args.cells.now)
    c.new.ensures.path c.new.ensures.none c.new.ensures.kept c.new.ensures.free c.new-3.ensures c.new-2.ensures c.search.ensures c.if-self.false c.replace-tilings.ensures.value).those

pub returns-clause-only : goal.returns-clause-only
returns-clause-only c = (listed c.args.is_ordered (supply_in c.args.supply.now) (empty_cells c.args.cells.now) c.new.result c.search.new.self.listing c.new-3.result _ c.replace-tilings.result (cells_small c.args.cells.now)
    c.new.ensures.path c.new.ensures.none c.new.ensures.kept c.new.ensures.free c.new-3.ensures c.new-2.ensures c.search.ensures c.if-self.false c.replace-tilings.ensures.value).only
