-- The counts of one hand more.
use Rattle.std.proofs.Common.{arith}
use Rattle.percent.proofs.BuildingLemmas.{counts-end, counts-more, counts-start}
use Rattle.percent.proofs.narrowing.counts_of_each.Goals as goal

pub loop-hand-init : goal.loop-hand-init
loop-hand-init c = counts-start c.args.left c.args.hands.now c.in_ok-counts.counts.items c.in_ok-counts.ensures.items

pub loop-hand-preserved : goal.loop-hand-preserved
loop-hand-preserved c =
    rw c.in_ok-push.ensures.items
    (counts-more c.args.left c.args.hands.now c.loop-hand.counts.items c.counts_of.result c.loop-hand.hand-index (record { size = c.counts_of.ensures.size; each = c.counts_of.ensures.each }) c.loop-hand.invariant)

pub returns : goal.returns
returns c = counts-end c.args.left c.args.hands.now c.loop-hand.counts.items c.loop-hand.hand-index (omega (arith, c.loop-hand-test.false)) c.loop-hand.invariant
