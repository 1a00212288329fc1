-- One row more has one empty cell more, or none.
use Rattle.std.proofs.Common.{sym, arith, rules}
use Rattle.std.proofs.lemmas.Bool.{cond-true, cond-false, not_from_false, not_from_true}
use Rattle.well.specs.Well.{filled}
use Rattle.prune.proofs.ColumnCounts.{column_empties-zero, column_empties-suc}
use Rattle.prune.proofs.cheap.column_empties.Goals as goal
use Rattle.prune.proofs.cheap.column_empties.Goals.{then-not-cell, else-not-cell}

pub loop-y-init : goal.loop-y-init
loop-y-init c = record { counted = sym (column_empties-zero (filled c.args.well.now) c.args.x); small = omega arith }

pub loop-y-preserved : goal.loop-y-preserved
loop-y-preserved c =
    search (rules, (column_empties-suc (filled c.args.well.now) c.loop-y.y c.args.x), then-not-cell, cond-true, not_from_false, else-not-cell, cond-false, not_from_true)
