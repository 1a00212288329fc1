-- What the loop of `all_after` keeps.
use Rattle.queue_pattern.specs.Pattern.{elements_of}
use Rattle.tails.proofs.MadeLemmas.{AfterSoFar}
use Rattle.tails.proofs.states.all_after.Given as goal

abbrev pub invariant-loop-piece : goal.invariant-loop-piece
invariant-loop-piece l = AfterSoFar (elements_of l.pattern) l.index l.set l.last l.next l.piece-index
