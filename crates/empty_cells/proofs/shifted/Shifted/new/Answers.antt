-- No column lies before column 0.
use Rattle.std.proofs.Common.{arith, rules}
use Rattle.std.proofs.Math.Path.{fun_ext}
use Rattle.empty_cells.proofs.EmptiesLemmas.{cells_small}
use Rattle.empty_cells.proofs.ShiftedLemmas.{from_there}
use Rattle.empty_cells.proofs.shifted.Shifted.new.Goals as goal

pub invariant_of-result : goal.invariant_of-result
invariant_of-result c = record { column = omega arith; within = λ a b here. omega (arith, (cells_small c.args.cells.now).column a b here) }

pub returns : goal.returns
returns c = search (rules, fun_ext, from_there)
