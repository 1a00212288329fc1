-- The hand of one tail more.
use Rattle.std.proofs.Common.{refl, arith}
use Rattle.tails.proofs.HandLists.{hands-end, hands-more, hands-start, listed-tail}
use Rattle.tails.proofs.tree.TailTree.hands.Goals as goal

pub loop-tail-init : goal.loop-tail-init
loop-tail-init c = hands-start c.args.self.now c.args.tails.now c.in_ok-hands.hands.items c.in_ok-hands.ensures.items

pub hand-requires : goal.hand-requires
hand-requires c = listed-tail c.args.self.now c.args.tails.now c.loop-tail.tail-index _ c.requires c.loop-tail-test.true refl

pub loop-tail-preserved : goal.loop-tail-preserved
loop-tail-preserved c =
    rw c.in_ok-push.ensures.items
    (hands-more c.args.self.now c.args.tails.now c.loop-tail.hands.items c.hand.result c.loop-tail.tail-index c.hand.ensures c.loop-tail.invariant)

pub returns : goal.returns
returns c = hands-end c.args.self.now c.args.tails.now c.loop-tail.hands.items c.loop-tail.tail-index (omega (arith, c.loop-tail-test.false)) c.loop-tail.invariant
