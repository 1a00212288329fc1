-- The count is divided by one number after the other.
use Rattle.std.proofs.Common.{arith}
use Rattle.tails.proofs.MadeLemmas.{count-more, count-starts}
use Rattle.tails.proofs.states.count_at.Goals as goal

pub loop-drawn-init : goal.loop-drawn-init
loop-drawn-init c =
    count-starts c.args.pattern.now c.args.index c.args.element c.size-most.result c.count_from-count.result c.requires.there c.size-most.ensures.number c.count_from-count.ensures

pub loop-drawn-preserved : goal.loop-drawn-preserved
loop-drawn-preserved c = count-more _ _ _ _ _ _ c.from-count.ensures (omega arith) (omega arith) c.loop-drawn.invariant
