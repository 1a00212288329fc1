-- A held piece stands in front.
use Rattle.hold_queue.proofs.HandLemmas.{first-held}
use Rattle.hold_queue.proofs.hand.Hand.with_first_held.Goals as goal

pub returns : goal.returns
returns c = first-held c.args.queue.now.items c.args.self c.in-Some.first c.in-Some.ensures.first c.in-Some.ensures.none_held
