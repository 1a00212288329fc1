-- The bits further up.
use Rattle.std.proofs.Common.{◌*◌, arith, rules}
use Rattle.std.proofs.Math.Path.{fun_ext}
use Rattle.std.proofs.lemmas.Nat.{shr_le}
use Rattle.lane_board.proofs.CallerLemmas.{has_bit-shifted_right}
use Rattle.empty_cells.specs.Empties.{cells_by_column, empty_cells}
use Rattle.empty_cells.specs.Spans.{from_column}
use Rattle.empty_cells.proofs.empties.Empties.from_column.Goals as goal

pub invariant_of-result : goal.invariant_of-result
invariant_of-result c = record { in_columns = omega (arith, shr_le c.args.self.now.cells (8 * c.args.x), c.args.self.now.in_columns) }

pub returns : goal.returns
unfolding empty_cells cells_by_column from_column
returns c = search (rules, fun_ext, has_bit-shifted_right)
