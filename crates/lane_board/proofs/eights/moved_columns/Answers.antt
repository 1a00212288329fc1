-- To the left or to the right.
use Rattle.std.proofs.Common.{◌∙◌, arith}
use Rattle.std.proofs.lemmas.Int.{ints}
use Rattle.lane_board.proofs.MovedLanes.{moved_by_left, moved_by_right}
use Rattle.lane_board.proofs.eights.moved_columns.Goals as goal

pub returns-then-dx-lt0-clause-lanes : goal.returns-then-dx-lt0-clause-lanes
returns-then-dx-lt0-clause-lanes c = c.moved_left.ensures ∙ moved_by_left c.args.dx _ c.args.lanes (grind (arith, ints)) (grind (arith, ints))

pub returns-clause-lanes : goal.returns-clause-lanes
returns-clause-lanes c = c.moved_right.ensures ∙ moved_by_right c.args.dx _ c.args.lanes (grind (arith, ints))
