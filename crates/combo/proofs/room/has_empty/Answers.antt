-- The first empty cell, or none.
use Rattle.std.proofs.Common.{sym, ◌∙◌, rules}
use Rattle.well.specs.Well.{filled}
use Rattle.combo.proofs.MiddleLemmas.{has_empty-from, has_empty-none}
use Rattle.combo.proofs.room.has_empty.Goals as goal

pub returns-then-not-cell : goal.returns-then-not-cell
returns-then-not-cell c =
    sym (has_empty-from (filled c.args.well.now) c.args.x c.args.height c.loop-y.y c.loop-y-test.true (sym c.cell.ensures ∙ c.if-not-cell.true))

pub returns : goal.returns
returns c = search (rules, has_empty-none)
