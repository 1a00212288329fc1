-- A gap would go before itself.
use Rattle.std.proofs.Common.{arith}
use Rattle.tiled_pieces.proofs.RowOrderLemmas.{none_itself}
use Rattle.tiled_pieces.proofs.row_order.RowOrder.with.Goals as goal

pub returns-then-later-gaps-ne0 : goal.returns-then-later-gaps-ne0
returns-then-later-gaps-ne0 c = λ turn agrees goes. none_itself turn c.args.gaps c.later-later.result (omega (arith, c.ranges.gaps.fits)) (omega (arith, c.later-later.type_inv)) c.if-later-gaps-ne0.true
    (λ z low gap. c.later-later.ensures turn z agrees (goes.each z low gap))
