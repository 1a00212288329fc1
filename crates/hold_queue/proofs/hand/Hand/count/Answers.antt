-- The pieces of the queue that are not drawn, and a held one.
use Rattle.std.proofs.Common.{arith}
use Rattle.hold_queue.proofs.HandLemmas.{count-none, count-some}
use Rattle.hold_queue.proofs.hand.Hand.count.Goals as goal

pub returns-in-None-clause-value : goal.returns-in-None-clause-value
returns-in-None-clause-value c = omega (arith, c.saturating_sub-left.ensures, c.len.ensures.value, count-none c.args.queue.now.items c.args.self c.in-None.is)

pub returns-in-Some-clause-value : goal.returns-in-Some-clause-value
returns-in-Some-clause-value c = omega (arith, c.saturating_sub-left.ensures, c.len.ensures.value, count-some c.args.queue.now.items c.args.self _ c.in-Some.is)
