-- The byte at the row has more bits.
use Rattle.std.proofs.Common.{arith}
use Rattle.tiled_pieces.proofs.RowOrderLemmas.{agrees_with}
use Rattle.tiled_pieces.proofs.row_order.RowOrder.with_row.Goals as goal

pub returns : goal.returns
returns c = λ turn agrees goes. agrees_with turn c.args.self.before c.args.later c.from.result c.args.row c.from.ensures (omega (arith, c.ranges.later.fits)) c.requires agrees goes
