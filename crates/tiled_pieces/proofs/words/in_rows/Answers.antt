-- Tried for each set of rows.
use Rattle.std.proofs.Common.{◌*◌, ◌+◌, ap, ◌∙◌, arith}
use Rattle.lane_board.specs.Lanes.{has_bit}
use Rattle.tiled_pieces.proofs.WordBits.{spread_rows}
use Rattle.tiled_pieces.proofs.words.in_rows.Goals as goal

pub returns : goal.returns
returns c = λ x y column low. ap (λ n. has_bit (n * 4740885567116192841985) (8 * x + y)) c.from.ensures ∙ spread_rows c.args.rows x y (omega (arith, c.ranges.rows.fits)) column low
