-- By the number of pieces left.
use Rattle.empty_cells.proofs.CallerLemmas.{tiling_decided}
use Rattle.packing.proofs.laws.tilings_are_decided.Goals as goal

pub returns : goal.returns
returns c = tiling_decided
