-- The cell is the board's.
use Rattle.well.specs.Well.{filled}
use Rattle.well.proofs.well.Well.cell.Goals as goal

pub returns : goal.returns
unfolding filled
returns c = c.get.ensures
