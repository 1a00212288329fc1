-- Each bit is the lowest in turn.
use Rattle.std.proofs.Common.{arith}
use Rattle.tails.proofs.NumberedTails.{pushed-done, pushed-more}
use Rattle.tails.proofs.tail_set.push_tails.Goals as goal

pub loop-bits-preserved : goal.loop-bits-preserved
loop-bits-preserved c =
    pushed-more c.args.numbers.now.items c.loop-bits.numbers.items c.push.new.self.items c.args.block c.lowest_bit.result _ c.loop-bits.bits c.without_lowest-bits.result
    c.loop-bits.invariant c.lowest_bit.ensures.lowest c.lowest_bit.ensures.below c.in_ok-push.ensures.items (omega arith) (omega arith) c.without_lowest-bits.ensures.bits

pub returns : goal.returns
returns c = pushed-done c.args.numbers.now.items c.loop-bits.numbers.items c.args.block c.loop-bits.bits c.loop-bits.invariant c.loop-bits-test.false
