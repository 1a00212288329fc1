-- Where a count refuses there is no tiling.
use Rattle.std.proofs.Common.{rules}
use Rattle.well.specs.Well.{filled}
use Rattle.prune.specs.Tiling.{supply_in}
use Rattle.prune.specs.Counts.{uneven_run}
use Rattle.prune.proofs.RefusalLemmas.{none_refused}
use Rattle.prune.proofs.cheap.cheap_no.Goals as goal
use Rattle.prune.proofs.cheap.cheap_no.Goals.{then-empties-ne0-via-then-empties-ne0, then-empties-ne0-via-else-empties-ne0+then-pieces-from}

pub returns-then-empties-ne0-clause-none : goal.returns-then-empties-ne0-clause-none
returns-then-empties-ne0-clause-none c = λ _ tiling. none_refused (filled c.args.well.now) c.args.rows_left (supply_in c.args.supply.now) tiling (search (rules, then-empties-ne0-via-then-empties-ne0, then-empties-ne0-via-else-empties-ne0+then-pieces-from))

pub returns-clause-none : goal.returns-clause-none
returns-clause-none c = λ refused tiling. none_refused (filled c.args.well.now) c.args.rows_left (supply_in c.args.supply.now) tiling (uneven_run (c.has_uneven_run.ensures.0 refused))
