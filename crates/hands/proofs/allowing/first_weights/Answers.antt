-- Each digit is a piece.
use Rattle.std.proofs.Common.{arith, ap, ◌∙◌}
use Rattle.hands.specs.Weights.{first_weights}
use Rattle.hands.proofs.AllowingLemmas.{sum-ends, sum-more, sum-starts}
use Rattle.hands.proofs.allowing.first_weights.Goals as goal

pub loop-init : goal.loop-init
loop-init c = sum-starts c.args.weights.now c.args.hand

pub loop-preserved : goal.loop-preserved
loop-preserved c =
    sum-more c.args.weights.now c.args.hand c.loop.counter c.loop.sum c.loop.rest c.from-sum.result c.from-sum.ensures (omega arith) c.loop.invariant

pub returns : goal.returns
returns c =
    sum-ends c.args.weights.now c.args.hand c.loop.counter c.loop.sum c.loop.rest c.loop.invariant
    ∙ ap (λ n. first_weights c.args.weights.now n c.args.hand) {x = c.loop.counter} {y = c.args.count} (omega (arith, c.loop-test.false))
