-- A held piece is the first, else the next one of the queue.
use Rattle.std.proofs.Common.{arith, rules}
use Rattle.std.proofs.lemmas.Option.{slice_get-get_or}
use Rattle.hold_queue.proofs.HandLemmas.{drawn-first, held-first, none-first}
use Rattle.hold_queue.proofs.hand.Hand.first.Goals as goal

pub returns-in-Some-clause-first : goal.returns-in-Some-clause-first
returns-in-Some-clause-first c = held-first c.args.queue.now.items c.args.self c.in-Some.piece c.in-Some.is

pub returns-then-drawn-len-clause-first : goal.returns-then-drawn-len-clause-first
returns-then-drawn-len-clause-first c = none-first c.args.queue.now.items c.args.self c.in_default.is (omega (arith, c.if-drawn-len.true, c.len.ensures.value))

pub returns-clause-first : goal.returns-clause-first
returns-clause-first c = search (rules, drawn-first, slice_get-get_or)
