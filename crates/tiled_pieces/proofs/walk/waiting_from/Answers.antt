-- Eight sets together.
use Rattle.tiled_pieces.proofs.EightSets.{none_of_eight}
use Rattle.tiled_pieces.proofs.walk.waiting_from.Goals as goal

pub returns-clause-none : goal.returns-clause-none
returns-clause-none c = none_of_eight c.args.table.now c.args.set c.if-low-high-ne0.false
