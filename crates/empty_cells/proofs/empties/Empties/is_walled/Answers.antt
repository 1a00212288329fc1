-- No row has a cell in both columns exactly where the set of such rows has no bit.
use Rattle.empty_cells.specs.Empties.{empty_cells}
use Rattle.empty_cells.proofs.ColumnBits.{wall_by_rows}
use Rattle.empty_cells.proofs.EmptiesLemmas.{cells_small}
use Rattle.empty_cells.proofs.empties.Empties.is_walled.Goals as goal

pub returns : goal.returns
returns c = wall_by_rows (empty_cells c.args.self.now) c.args.x c.rows_with.result (cells_small c.args.self.now) c.rows_with.type_inv c.rows_with.ensures
