-- The lowest bit of the shifted set.
use Rattle.tiled_pieces.proofs.SetLemmas.{has_set}
use Rattle.tiled_pieces.proofs.walk.has.Goals as goal

pub returns : goal.returns
returns c = has_set c.args.set c.args.index
