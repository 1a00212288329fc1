-- The bits are those of the cells.
use Rattle.std.proofs.Common.{refl}
use Rattle.empty_cells.specs.Empties.{empty_cells}
use Rattle.empty_cells.proofs.empties.Empties.bits.Goals as goal

pub returns-clause-small : goal.returns-clause-small
returns-clause-small c = c.args.self.now.in_columns

pub returns-clause-cells : goal.returns-clause-cells
unfolding empty_cells
returns-clause-cells c = refl
