-- The greater counts of one more hand.
use Rattle.percent.proofs.FittingLemmas.{cover-ends, cover-starts, cover-more}
use Rattle.percent.proofs.fitting.greatest_counts.Goals as goal

pub loop-hand-init : goal.loop-hand-init
loop-hand-init c = cover-starts c.args.hands.now _ c.args.pieces

pub loop-hand-preserved : goal.loop-hand-preserved
loop-hand-preserved c =
    cover-more c.args.hands.now c.loop-hand.counts c.counts_of.result c.greater-counts.result c.args.pieces c.loop-hand.hand-index c.loop-hand.invariant c.loop-hand-test.true
    c.counts_of.ensures.each c.greater-counts.ensures.first c.greater-counts.ensures.second

pub returns : goal.returns
returns c = cover-ends c.args.hands.now c.loop-hand.counts c.args.pieces c.loop-hand.hand-index c.loop-hand-test.false c.loop-hand.invariant
