-- A well with no cell has an empty top row.
use Rattle.std.proofs.Common.{ap}
use Rattle.lane_board.specs.Field.{empty_field}
use Rattle.well.specs.Well.{filled}
use Rattle.well.proofs.well.Well.empty.Goals as goal

pub invariant_of-result : goal.invariant_of-result
unfolding empty_field
invariant_of-result c = record { top_is_empty = λ x. ap (λ F. F x 23) c.empty.ensures }

pub returns : goal.returns
unfolding filled
returns c = c.empty.ensures
