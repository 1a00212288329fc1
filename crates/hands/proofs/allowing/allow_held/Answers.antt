-- Each sum has its place.
use Rattle.hands.proofs.AllowingLemmas.{held-ends, held-more}
use Rattle.hands.proofs.allowing.allow_held.Goals as goal

pub loop-count-preserved : goal.loop-count-preserved
loop-count-preserved c =
    held-more c.args.weights.now c.args.hand c.args.allowed.now c.loop-count.allowed c.allow_all_but_one.new.allowed c.args.bit c.loop-count.count
    c.allow_all_but_one.ensures.kept (c.allow_all_but_one.ensures.allows c.if-not-allow_all_but_one.false) c.loop-count.invariant

pub returns-clause-allows : goal.returns-clause-allows
returns-clause-allows c = λ _.
    held-ends c.args.weights.now c.args.left c.args.hand c.args.allowed.now c.loop-count.allowed c.args.bit c.loop-count.count c.loop-count-test.false c.loop-count.invariant
