-- Each column goes on, or is the last of an uneven part.
use Rattle.std.proofs.Common.{refl, arith, rules}
use Rattle.std.proofs.lemmas.Bool.{false≢true, both_ways}
use Rattle.well.specs.Well.{filled}
use Rattle.prune.proofs.ColumnCounts.{column_empties-le}
use Rattle.prune.proofs.RefusalLemmas.{no_uneven_part}
use Rattle.prune.proofs.UnevenParts.{parts-start, parts-next, parts-found, parts-none}
use Rattle.prune.proofs.walls.has_uneven_part.Goals as goal
use Rattle.prune.proofs.walls.has_uneven_part.Goals.{else-empties-ne0-via-then-empties-ne0+else-is_walled, else-empties-ne0-via-else-empties-ne0}

pub overflow_add-empties : goal.overflow_add-empties
overflow_add-empties c = omega (arith, c.loop-x.invariant.small, c.loop-x-test.true, column_empties-le (filled c.args.well.now) c.args.rows_left c.loop-x.x, c.column_empties-empties.ensures, c.requires)

pub loop-x-init : goal.loop-x-init
loop-x-init c = parts-start _ _

pub returns-then-is_walled-clause-exact : goal.returns-then-is_walled-clause-exact
returns-then-is_walled-clause-exact c = (
  λ _. parts-found _ _ c.loop-x.x c.loop-x.empties c.column_empties-empties.result (omega (arith, c.loop-x-test.true)) c.column_empties-empties.ensures c.if-empties-ne0.true (c.if-is_walled.ensures.0 refl) c.loop-x.invariant,
  λ _. refl,
)

pub returns-then-is_walled-clause-none : goal.returns-then-is_walled-clause-none
returns-then-is_walled-clause-none c = λ _ supply tiling. no_uneven_part _ _ supply tiling
    (parts-found _ _ c.loop-x.x c.loop-x.empties c.column_empties-empties.result (omega (arith, c.loop-x-test.true)) c.column_empties-empties.ensures c.if-empties-ne0.true (c.if-is_walled.ensures.0 refl) c.loop-x.invariant)

pub loop-x-preserved : goal.loop-x-preserved
loop-x-preserved c = parts-next _ _ c.loop-x.x c.loop-x.empties c.column_empties-empties.result c.requires c.column_empties-empties.ensures
    (search (rules, else-empties-ne0-via-then-empties-ne0+else-is_walled, both_ways, else-empties-ne0-via-else-empties-ne0))
    c.loop-x.invariant

pub returns-clause-exact : goal.returns-clause-exact
returns-clause-exact c = (λ e. absurd (false≢true e), λ has. absurd (parts-none _ _ c.loop-x.x c.loop-x.empties (omega (arith, c.loop-x-test.false)) c.loop-x.invariant has))
