-- It goes before a gap.
use Rattle.std.proofs.Common.{arith}
use Rattle.tiled_pieces.proofs.RowOrderLemmas.{leads_through, not_none}
use Rattle.tiled_pieces.proofs.row_order.RowOrder.leads_to.Goals as goal

pub returns : goal.returns
returns c = λ some turn rows agrees goes. leads_through turn c.args.self.before c.after.result c.args.gaps rows c.args.row c.requires (omega (arith, c.ranges.gaps.fits)) (omega (arith, c.after.type_inv))
    c.after.ensures (not_none _ some) agrees goes
