-- Each sum has its place.
use Rattle.std.proofs.Common.{arith}
use Rattle.hands.proofs.AllowingLemmas.{first-ends, first-more, first-starts}
use Rattle.hands.proofs.allowing.allow_first.Goals as goal

pub loop-init : goal.loop-init
loop-init c = first-starts c.args.weights.now c.args.hand c.args.allowed.now c.args.bit

pub loop-preserved : goal.loop-preserved
loop-preserved c =
    first-more c.args.weights.now c.args.hand c.args.allowed.now c.loop.allowed c.set_at.new.allowed c.args.bit c.loop.counter c.loop.sum c.loop.rest c.from-sum.result c.from-sum.ensures (omega arith) c.set_at.ensures.kept
    (c.set_at.ensures.set c.if-not-set_at.false) c.loop.invariant

pub returns-clause-allows : goal.returns-clause-allows
returns-clause-allows c = λ _.
    first-ends c.args.weights.now c.args.left c.args.hand c.args.allowed.now c.loop.allowed c.args.bit c.loop.counter c.loop.sum c.loop.rest c.loop-test.false c.loop.invariant
