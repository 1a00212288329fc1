-- The first piece and the second are all ways, in either order; two that are the same piece are one.
use Rattle.std.proofs.Common.{rules}
use Rattle.hold_queue.proofs.HandLemmas.{in-other-order, one-way, same-way, two-ways}
use Rattle.hold_queue.proofs.hand.Hand.takes.Goals as goal

pub returns-in-Avoided-clause-all : goal.returns-in-Avoided-clause-all
returns-in-Avoided-clause-all c = search (rules, one-way)

pub returns-in_default-2-clause-all : goal.returns-in_default-2-clause-all
returns-in_default-2-clause-all c = search (rules, one-way)

pub returns-then-code-clause-all : goal.returns-then-code-clause-all
returns-then-code-clause-all c = search (rules, same-way)

pub returns-then-code-2-clause-all : goal.returns-then-code-2-clause-all
returns-then-code-2-clause-all c = search (rules, in-other-order)

pub returns-clause-all : goal.returns-clause-all
returns-clause-all c = search (rules, two-ways)
