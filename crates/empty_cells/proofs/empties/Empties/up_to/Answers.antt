-- The lowest bits of the set, column by column.
use Rattle.std.proofs.Common.{◌+◌, ◌-◌, ◌*◌, arith}
use Rattle.prune.specs.Counts.{run_empties}
use Rattle.empty_cells.proofs.RefusalLemmas.{ones_before}
use Rattle.empty_cells.proofs.empties.Empties.up_to.Goals as goal

pub returns : goal.returns
unfolding run_empties
returns c = ones_before c.args.self.now (c.args.last + 1 - 0) (8 * c.args.last + 8) (omega (arith, c.requires)) (omega arith)
