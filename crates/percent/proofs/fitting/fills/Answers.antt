-- The supply is that of the counts.
use Rattle.std.proofs.Common.{◌↔◌, IsTrue, subst}
use Rattle.prune.specs.Tiling.{Supply, Tiling}
use Rattle.empty_cells.specs.Empties.{all_but, empty_cells}
use Rattle.percent.proofs.fitting.fills.Goals as goal

pub returns : goal.returns
returns c = subst (λ (s : Supply). IsTrue c.has_tiling_near.result ↔ Tiling (all_but (empty_cells c.args.cells.now)) 8 s) c.supply_from.ensures c.has_tiling_near.ensures
