-- Each column comes below those before it.
use Rattle.std.proofs.Common.{arith, rules}
use Rattle.std.proofs.Math.Bool.{and-true}
use Rattle.empty_cells.specs.Empties.{empty_cells}
use Rattle.empty_cells.specs.Spans.{has_span}
use Rattle.empty_cells.proofs.Mirrors.{none_above, turned-all, turned-next, turned-small, turned-start}
use Rattle.empty_cells.proofs.empties.Empties.mirrored.Goals as goal

pub loop-x-init : goal.loop-x-init
loop-x-init c = turned-start _

pub loop-x-preserved : goal.loop-x-preserved
unfolding has_span
loop-x-preserved c = search (rules, (turned-next (empty_cells c.args.self.now) c.loop-x.cells c.loop-x.x c.from.result), c.rows_with.ensures, and-true)

pub invariant_of-result : goal.invariant_of-result
invariant_of-result c = record { in_columns = turned-small _ _ c.loop-x.x (omega arith) c.loop-x.invariant }

pub returns : goal.returns
returns c = turned-all (empty_cells c.args.self.now) _ c.loop-x.x (omega arith) c.loop-x.invariant (none_above c.args.self.now)
