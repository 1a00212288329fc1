-- The columns before it have no cell.
use Rattle.std.proofs.Common.{sym}
use Rattle.empty_cells.specs.Empties.{empty_cells}
use Rattle.empty_cells.proofs.ShiftedLemmas.{back_from}
use Rattle.empty_cells.proofs.shifted.Shifted.counted.Goals as goal

pub returns : goal.returns
returns c = sym (back_from c.args.self.now.x (empty_cells c.args.self.now.cells))
