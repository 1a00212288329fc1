-- Each tiling is tried.
use Rattle.std.proofs.Common.{rules}
use Rattle.std.proofs.lemmas.Bool.{false≢true}
use Rattle.tiled_pieces.proofs.ListedLemmas.{have_next, have_none}
use Rattle.tiled_pieces.proofs.list.TilingList.has.Goals as goal

pub loop-tiling-preserved : goal.loop-tiling-preserved
loop-tiling-preserved c = search (rules, have_next)

pub returns : goal.returns
returns c = search (rules, false≢true, have_none)
