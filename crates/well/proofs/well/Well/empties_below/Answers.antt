-- The cells below the height are at most ten a row.
use Rattle.std.proofs.Common.{◌≡◌, arith, rules}
use Rattle.lane_board.specs.CellCount.{cell_count}
use Rattle.lane_board.proofs.CallerLemmas.{cell_count-le}
use Rattle.well.specs.Well.{filled}
use Rattle.well.proofs.WellFields.{filled-within, counted_below}
use Rattle.well.proofs.well.Well.empties_below.Goals as goal
use Rattle.well.proofs.well.Well.empties_below.Goals.{After-count-cells}

counted : (c : After-count-cells) → c.count-cells.result ≡ cell_count (filled c.args.self.now) c.args.height
unfolding filled
counted c = search (rules, counted_below, filled-within)

pub overflow_cast-result : goal.overflow_cast-result
overflow_cast-result c = omega (arith, counted c, cell_count-le (filled c.args.self.now) c.args.height, c.requires)

pub overflow_sub-result : goal.overflow_sub-result
overflow_sub-result c = omega (arith, counted c, cell_count-le (filled c.args.self.now) c.args.height)

pub returns : goal.returns
returns c = omega (arith, counted c)
