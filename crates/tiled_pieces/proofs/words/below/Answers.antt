-- One row, two, four and eight.
use Rattle.tiled_pieces.proofs.BelowSteps.{first_below, twice_below}
use Rattle.tiled_pieces.proofs.words.below.Goals as goal

pub returns : goal.returns
returns c =
    let one = first_below c.args.cells _ c.lowered-one.ensures in
    let two = twice_below c.args.cells 1 _ _ one c.lowered.ensures in
    let four = twice_below c.args.cells 2 _ _ two c.lowered-2.ensures in
    (twice_below c.args.cells 4 _ _ four c.lowered-3.ensures).bits
