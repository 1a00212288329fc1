-- The law is a lemma.
use Rattle.well.proofs.LockLemmas.{adds_four_cells}
use Rattle.well.proofs.laws.locking_adds_four_cells.Goals as goal

pub returns : goal.returns
returns c = adds_four_cells
