-- Nothing is read: no cell lies anywhere.
use Rattle.std.proofs.Common.{ap}
use Rattle.lane_board.specs.Field.{empty_field}
use Rattle.well.proofs.reader.RowsReader.start.Goals as goal

pub invariant_of-result-clause-low : goal.invariant_of-result-clause-low
unfolding empty_field
invariant_of-result-clause-low c = λ x y above. ap (λ F. F x y) c.empty.ensures
