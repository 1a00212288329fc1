-- The list has all tilings whose rows can go.
use Rattle.std.proofs.Common.{subst}
use Rattle.prune.specs.Tiling.{Supply}
use Rattle.empty_cells.specs.Empties.{empty_cells}
use Rattle.tiled_pieces.specs.RowOrders.{ListsOrdered}
use Rattle.percent.proofs.marks.listed.Goals as goal

pub returns : goal.returns
returns c = record {
  each = λ none. none (subst (λ (supply : Supply). ListsOrdered (empty_cells c.args.cells.now) supply c.in_ok-tilings.tilings.tilings.items) c.supply_from.ensures c.in_ok-tilings.ensures.all);
}
