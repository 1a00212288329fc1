-- Each column goes on, or is the last of an uneven part.
use Rattle.std.proofs.Common.{refl, arith, rules}
use Rattle.std.proofs.lemmas.Bool.{false≢true, both_ways}
use Rattle.prune.proofs.CallerLemmas.{no_uneven_part, parts-start, parts-next, parts-found, parts-none}
use Rattle.empty_cells.proofs.empties.Empties.has_uneven_part.Goals as goal
use Rattle.empty_cells.proofs.empties.Empties.has_uneven_part.Goals.{else-cells-ne0-via-then-cells-ne0+else-is_walled, else-cells-ne0-via-else-cells-ne0}

pub overflow_add-cells : goal.overflow_add-cells
overflow_add-cells c = omega (arith, c.loop-x.invariant.small, c.loop-x-test.true, c.in_column-cells.ensures.small)

pub loop-x-init : goal.loop-x-init
loop-x-init c = parts-start _ _

pub returns-then-is_walled-clause-exact : goal.returns-then-is_walled-clause-exact
returns-then-is_walled-clause-exact c = (
  λ _. parts-found _ _ c.loop-x.x c.loop-x.cells c.in_column-cells.result (omega (arith, c.loop-x-test.true)) c.in_column-cells.ensures.number c.if-cells-ne0.true (c.if-is_walled.ensures.0 refl) c.loop-x.invariant,
  λ _. refl,
)

pub returns-then-is_walled-clause-none : goal.returns-then-is_walled-clause-none
returns-then-is_walled-clause-none c = λ _ supply tiling. no_uneven_part _ _ supply tiling
    (parts-found _ _ c.loop-x.x c.loop-x.cells c.in_column-cells.result (omega (arith, c.loop-x-test.true)) c.in_column-cells.ensures.number c.if-cells-ne0.true (c.if-is_walled.ensures.0 refl) c.loop-x.invariant)

pub loop-x-preserved : goal.loop-x-preserved
loop-x-preserved c = search (rules, parts-next, both_ways)

pub returns-clause-exact : goal.returns-clause-exact
returns-clause-exact c = (λ e. absurd (false≢true e), λ has. absurd (parts-none _ _ c.loop-x.x c.loop-x.cells (omega (arith, c.loop-x-test.false)) c.loop-x.invariant has))
