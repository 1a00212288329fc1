-- A free placement lies in the columns and rows of sets.
use Rattle.std.proofs.Common.{arith}
use Rattle.well.specs.Well.{filled}
use Rattle.well.proofs.CallerLemmas.{free_inside}
use Rattle.srs.proofs.CallerLemmas.{pivot_inside}
use Rattle.percent.proofs.SpreadLemmas.{placed_in_rows}
use Rattle.percent.proofs.marks.Marks.taken.Goals as goal

pub sent-requires-clause-column : goal.sent-requires-clause-column
sent-requires-clause-column c = let inside = pivot_inside c.args.placement.now (free_inside (filled c.args.self.now.position.well) c.args.placement.now c.requires.free) in omega (arith, inside.in_columns)

pub sent-requires-clause-row : goal.sent-requires-clause-row
sent-requires-clause-row c = let inside = pivot_inside c.args.placement.now (free_inside (filled c.args.self.now.position.well) c.args.placement.now c.requires.free) in omega (arith, inside.in_rows)

pub sent-requires-clause-inside : goal.sent-requires-clause-inside
sent-requires-clause-inside c =
    let p = c.args.self.now.position in
    placed_in_rows (filled p.well) p.rows c.args.placement.now p.few c.requires.free c.requires.below

pub sent-requires-clause-rows : goal.sent-requires-clause-rows
sent-requires-clause-rows c = c.args.self.now.spread.within
