-- Tried for each set of rows.
use Rattle.std.proofs.Common.{arith}
use Rattle.tiled_pieces.proofs.BetweenRows.{between_bit}
use Rattle.tiled_pieces.proofs.words.between.Goals as goal

pub returns : goal.returns
returns c = λ z low. between_bit c.args.rows z (omega (arith, c.ranges.rows.fits)) low
