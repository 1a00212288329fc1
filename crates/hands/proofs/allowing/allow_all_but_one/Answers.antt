-- The whole less one weight more.
use Rattle.std.proofs.Common.{◌-◌, ap, ◌∙◌}
use Rattle.hands.proofs.AllowingLemmas.{but-one-more}
use Rattle.hands.proofs.allowing.allow_all_but_one.Goals as goal

pub loop-preserved : goal.loop-preserved
loop-preserved c =
    but-one-more c.args.weights.now c.args.hand c.first_weights-whole.result c.args.allowed.now c.loop.allowed c.set_at.new.allowed c.args.bit c.loop.counter c.loop.rest c.saturating_sub.result
    (c.saturating_sub.ensures ∙ ap (λ n. c.first_weights-whole.result - n) c.from-weight.ensures) c.set_at.ensures.kept (c.set_at.ensures.set c.if-not-set_at.false) c.loop.invariant
