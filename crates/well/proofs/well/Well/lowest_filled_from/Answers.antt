-- No row before this one has a cell.
use Rattle.std.proofs.Common.{arith, rules}
use Rattle.well.proofs.CountLemmas.{lowest_filled_some, lowest_filled_none}
use Rattle.well.specs.Well.{filled}
use Rattle.well.proofs.well.Well.lowest_filled_from.Goals as goal

pub returns-then-is_filled_row : goal.returns-then-is_filled_row
returns-then-is_filled_row c = search (rules, lowest_filled_some)

pub returns : goal.returns
returns c = lowest_filled_none (filled c.args.self.now) c.args.height (λ k from below. c.loop-y.invariant k from (omega arith))
