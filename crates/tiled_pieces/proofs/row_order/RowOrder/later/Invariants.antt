-- The rows that are left.
use Rattle.tiled_pieces.proofs.RowOrderLemmas.{LaterSoFar}
use Rattle.tiled_pieces.proofs.row_order.RowOrder.later.Given as goal

abbrev pub invariant-loop-rest : goal.invariant-loop-rest
invariant-loop-rest l = LaterSoFar l.fn.self.before l.rows l.rest l.later

abbrev pub decreases-loop-rest : goal.decreases-loop-rest
decreases-loop-rest l = l.rest
