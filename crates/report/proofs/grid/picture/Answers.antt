-- One more row is written, and at the end an empty line.
use Rattle.std.proofs.Common.{◌∷◌, [], ◌++◌, ap, ◌∙◌, rules}
use Rattle.well.specs.Well.{filled}
use Rattle.report.proofs.GridLemmas.{row_more, rows_end}
use Rattle.report.proofs.grid.picture.Goals as goal

pub loop-y-preserved : goal.loop-y-preserved
loop-y-preserved c = search (rules, row_more)

pub returns : goal.returns
returns c =
    c.push.ensures.items ∙ ap (λ l. l ++ 10 ∷ []) (rows_end (filled c.args.well.now) c.args.placement.now _ c.loop-y.picture.items c.loop-y.y c.loop-y-test.false c.loop-y.invariant.0)
