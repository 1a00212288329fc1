-- The second piece is the first of those behind the first one.
use Rattle.hold_queue.proofs.HandLemmas.{then-second}
use Rattle.hold_queue.proofs.hand.Hand.second.Goals as goal

pub returns : goal.returns
returns c =
    then-second c.args.queue.now.items c.args.self c.in_ok-first.first c.in_ok-second.second c.in_ok-first.ensures.first c.in_ok-second.ensures.first c.in_ok-second.ensures.none_held
