-- What agrees with the order and with the gaps agrees with what the order is so far.
use Rattle.std.proofs.Common.{ℕ}
use Rattle.tiled_pieces.specs.RowBits.{Agrees, GoBefore}
use Rattle.tiled_pieces.proofs.row_order.RowOrder.with.Given as goal

abbrev pub invariant-loop-row : goal.invariant-loop-row
invariant-loop-row l = (turn : ℕ → ℕ) → Agrees turn l.fn.self.before → GoBefore turn l.gaps l.rows → Agrees turn l.order.before
