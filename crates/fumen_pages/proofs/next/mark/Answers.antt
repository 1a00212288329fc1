-- Four cells are written one after another.
use Rattle.std.proofs.Common.{arith, rules}
use Rattle.srs.proofs.CallerLemmas.{pivot_inside}
use Rattle.fumen_pages.proofs.NextLaws.{marked_four}
use Rattle.fumen_pages.proofs.next.mark.Goals as goal

pub cells-requires-clause-column : goal.cells-requires-clause-column
cells-requires-clause-column c = omega (arith, (pivot_inside c.args.placement.now c.requires).in_columns)

pub cells-requires-clause-row : goal.cells-requires-clause-row
cells-requires-clause-row c = omega (arith, (pivot_inside c.args.placement.now c.requires).in_rows)

pub returns : goal.returns
returns c = search (rules, marked_four)
