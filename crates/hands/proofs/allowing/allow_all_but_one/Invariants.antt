use Rattle.hands.proofs.AllowingLemmas.{ButOneAllowed}
use Rattle.hands.proofs.allowing.allow_all_but_one.Given as goal

abbrev pub invariant-loop : goal.invariant-loop
invariant-loop l = ButOneAllowed l.weights l.hand l.whole l.fn.allowed l.allowed l.bit l.counter l.rest
