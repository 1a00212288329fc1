-- A placement inside the well has its pivot there.
use Rattle.std.proofs.Common.{arith}
use Rattle.srs.proofs.CallerLemmas.{pivot_inside}
use Rattle.problem.proofs.below.lies_below.Goals as goal

pub cells-requires-clause-column : goal.cells-requires-clause-column
cells-requires-clause-column c = let inside = pivot_inside c.args.placement.now c.requires in omega (arith, inside.in_columns)

pub cells-requires-clause-row : goal.cells-requires-clause-row
cells-requires-clause-row c = let inside = pivot_inside c.args.placement.now c.requires in omega (arith, inside.in_rows)
