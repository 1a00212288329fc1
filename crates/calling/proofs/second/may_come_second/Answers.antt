-- A first piece is found, or none of all goes before the piece.
use Rattle.std.proofs.Common.{◌≡◌, true, [], ◌∷◌, get_or, below_more, arith}
use Rattle.srs.specs.declared.piece.Piece.TheVariants.{I}
use Rattle.srs.specs.Piece.{all_pieces}
use Rattle.queue_pattern.specs.Pattern.{elements_of}
use Rattle.hold_queue.specs.QueueSet.{QueuesPermit, queues_in_play}
use Rattle.calling.proofs.SecondPieces.{none_second}
use Rattle.calling.proofs.second.may_come_second.Goals as goal

pub loop-first-preserved : goal.loop-first-preserved
loop-first-preserved c =
    below_more (λ k. QueuesPermit (queues_in_play c.start-start.result) (get_or all_pieces k I ∷ c.args.piece ∷ []) → ⊥) _ c.loop-first.invariant
    (λ both. let passes : c.permits_both.result ≡ true = c.permits_both.ensures.1 both in let fails = c.if-permits_both.false in cc)

pub returns : goal.returns
returns c = (
  λ passes. cc,
  λ both. absurd (none_second (elements_of c.args.pattern.now) c.args.hold c.args.held (queues_in_play c.start-start.result) c.start-start.ensures c.args.piece
      (λ k below. c.loop-first.invariant k (omega (arith, below, c.loop-first-test.false))) both),
)
