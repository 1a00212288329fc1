-- Each piece is the first of those that are left.
use Rattle.pc_outside.specs.CountLaws.{none_more}
use Rattle.pc_outside.specs.WriteLaws.{next_item, item_failed, at_err}
use Rattle.pc_outside.proofs.pieces.write_pieces.Goals as goal

pub returns-in_err-write-clause-written : goal.returns-in_err-write-clause-written
returns-in_err-write-clause-written g c =
    at_err c.from_residual.ensures.0 (item_failed _ _ _ _ c.loop-piece-test.true c.loop-piece.invariant.0 c.in_err-write.ensures.written)

pub loop-piece-preserved : goal.loop-piece-preserved
loop-piece-preserved g c = (next_item _ _ _ _ c.loop-piece-test.true c.loop-piece.invariant.0 c.in_ok-write.ensures.written, none_more c.loop-piece.invariant.1 c.in_ok-write.ensures.cause)
