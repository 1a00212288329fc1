-- The bits that are left.
use Rattle.std.proofs.Common.{rules}
use Rattle.std.proofs.Math.Bool.{and_assoc}
use Rattle.lane_board.proofs.CallerLemmas.{has_bit-and_not}
use Rattle.empty_cells.specs.Empties.{cells_by_column, empty_cells}
use Rattle.empty_cells.proofs.SpanBits.{left_small}
use Rattle.empty_cells.proofs.empties.Empties.without_bits.Goals as goal

pub invariant_of-result : goal.invariant_of-result
invariant_of-result c = record { in_columns = left_small c.args.self.now.cells c.args.bits c.args.self.now.in_columns }

pub returns : goal.returns
unfolding empty_cells cells_by_column
returns c = search (rules, has_bit-and_not, and_assoc)
