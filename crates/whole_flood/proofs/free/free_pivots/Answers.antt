-- The blank cells are those of the well that are not filled.
use Rattle.std.proofs.Common.{rules}
use Rattle.whole_flood.proofs.OpenedLemmas.{free_pivots-exact}
use Rattle.whole_flood.proofs.free.free_pivots.Goals as goal

pub returns : goal.returns
returns c = search (rules, free_pivots-exact)
