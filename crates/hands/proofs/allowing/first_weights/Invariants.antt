use Rattle.hands.proofs.AllowingLemmas.{Summing}
use Rattle.hands.proofs.allowing.first_weights.Given as goal

abbrev pub invariant-loop : goal.invariant-loop
invariant-loop l = Summing l.weights l.hand l.counter l.sum l.rest
