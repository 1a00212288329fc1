-- The cells of each row, tried one by one.
use Rattle.std.proofs.Common.{rules}
use Rattle.empty_cells.proofs.FoundCells.{spread-bits}
use Rattle.empty_cells.proofs.empties.spread.Goals as goal

pub returns-clause-bits : goal.returns-clause-bits
returns-clause-bits c = search (rules, spread-bits)
