use Rattle.hands.proofs.AllowingLemmas.{HeldAllowed}
use Rattle.hands.proofs.allowing.allow_held.Given as goal

abbrev pub invariant-loop-count : goal.invariant-loop-count
invariant-loop-count l = HeldAllowed l.weights l.hand l.fn.allowed l.allowed l.bit l.count
