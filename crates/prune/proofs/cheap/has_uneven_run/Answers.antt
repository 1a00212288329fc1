-- The walk goes on, stops at a column without an empty cell, and ends.
use Rattle.std.proofs.Common.{refl, arith}
use Rattle.well.specs.Well.{filled}
use Rattle.prune.proofs.ColumnCounts.{column_empties-le}
use Rattle.prune.proofs.RunLemmas.{goes_on, stops, finds, ends}
use Rattle.prune.proofs.cheap.has_uneven_run.Goals as goal

pub overflow_add-run : goal.overflow_add-run
overflow_add-run c = omega (arith, c.loop-x.invariant.small, column_empties-le (filled c.args.well.now) c.args.rows_left c.loop-x.x, c.column_empties-empties.ensures, c.requires)

pub loop-x-preserved-then-empties-gt0 : goal.loop-x-preserved-then-empties-gt0
loop-x-preserved-then-empties-gt0 c = goes_on (filled c.args.well.now) c.args.rows_left c.loop-x.x c.loop-x.run c.column_empties-empties.result c.requires c.column_empties-empties.ensures c.if-empties-gt0.true c.loop-x.invariant

pub returns-then-run-ne0 : goal.returns-then-run-ne0
returns-then-run-ne0 c = (λ _. finds (filled c.args.well.now) c.args.rows_left c.loop-x.x c.loop-x.run (omega arith) (λ _. omega (arith, c.column_empties-empties.ensures, c.if-empties-gt0.false)) c.loop-x.invariant c.if-run-ne0.true, λ _. refl)

pub loop-x-preserved : goal.loop-x-preserved
loop-x-preserved c = stops (filled c.args.well.now) c.args.rows_left c.loop-x.x c.loop-x.run (omega arith) (omega (arith, c.column_empties-empties.ensures, c.if-empties-gt0.false)) c.if-run-ne0.false c.loop-x.invariant

pub returns : goal.returns
returns c = ends (filled c.args.well.now) c.args.rows_left c.loop-x.x c.loop-x.run c.loop-x-test.false (omega (arith, c.loop-x.auto.x-end)) c.loop-x.invariant
