-- Tried for each row of the pivot.
use Rattle.std.proofs.Common.{arith}
use Rattle.empty_cells.proofs.PlacedBits.{keeps}
use Rattle.empty_cells.proofs.placed.rows_kept.Goals as goal

pub returns : goal.returns
returns c = (keeps c.args.y (omega arith)).kept
