-- Each cell of the rows that stay.
use Rattle.tiled_pieces.proofs.BelowSteps.{lowered_bit}
use Rattle.tiled_pieces.proofs.words.lowered.Goals as goal

pub returns : goal.returns
returns c = λ x y column low. lowered_bit c.args.cells c.in_rows.result c.args.by x y (c.in_rows.ensures x y column low)
