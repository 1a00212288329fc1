use Rattle.hands.proofs.AllowingLemmas.{FirstAllowed}
use Rattle.hands.proofs.allowing.allow_first.Given as goal

abbrev pub invariant-loop : goal.invariant-loop
invariant-loop l = FirstAllowed l.weights l.hand l.fn.allowed l.allowed l.bit l.counter l.sum l.rest
