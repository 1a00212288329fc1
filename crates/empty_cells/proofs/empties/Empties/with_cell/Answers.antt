-- One bit more.
use Rattle.empty_cells.specs.Empties.{cells_by_column, empty_cells}
use Rattle.empty_cells.proofs.SentLemmas.{added_small, bit_added}
use Rattle.empty_cells.proofs.empties.Empties.with_cell.Goals as goal

pub invariant_of-result : goal.invariant_of-result
invariant_of-result c = record { in_columns = added_small c.args.self.now.cells c.args.x c.args.y c.args.self.now.in_columns c.requires.column c.requires.row }

pub returns : goal.returns
unfolding empty_cells cells_by_column
returns c = λ a b. bit_added c.args.self.now.cells c.args.x c.args.y a b c.requires.column c.requires.row
