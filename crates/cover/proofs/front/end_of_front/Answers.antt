-- One more queue that begins alike.
use Rattle.std.proofs.Common.{◌+◌, ◌<◌, ◌≤◌, subst, arith}
use Rattle.queue_pattern.specs.Pattern.{elements_of}
use Rattle.queue_pattern.specs.Queues.{queues}
use Rattle.hold_queue.specs.Hand.{HasSameFront}
use Rattle.cover.proofs.FrontLemmas.{alike-goes_on}
use Rattle.cover.proofs.front.end_of_front.Goals as goal

pub loop-end-preserved-then-has_same_front : goal.loop-end-preserved-then-has_same_front
loop-end-preserved-then-has_same_front c =
    let all = queues (elements_of c.args.pattern.now) in
    let queue = c.args.queue.now.items in
    let some : 1 ≤ c.min.result = omega (arith, c.loop-end.invariant.some) in
    let before : c.loop-end.last + c.min.result < c.loop-end.end = omega arith in
    let same = c.has_same_front.ensures c.if-has_same_front.true in
    alike-goes_on all c.args.count queue c.args.number (c.queues_rise.ensures.rising (elements_of c.args.pattern.now)) c.requires
    c.loop-end.last c.loop-end.end c.loop-end.step (c.loop-end.last + c.min.result) _ c.queue-other.result.items c.loop-end.invariant (omega arith) before (omega arith)
    c.queue-other.ensures
    (subst (λ q. HasSameFront c.args.count q c.queue-other.result.items) c.as_slice.ensures.value
    (subst (HasSameFront c.args.count c.as_slice.result.now) c.as_slice-in-loop-end.ensures.value same))
