-- What the loop of `count_at` keeps.
use Rattle.std.proofs.Common.{◌+◌, drop}
use Rattle.queue_pattern.specs.Pattern.{elements_of}
use Rattle.tails.proofs.MadeLemmas.{CountSoFar}
use Rattle.tails.proofs.states.count_at.Given as goal

abbrev pub invariant-loop-drawn : goal.invariant-loop-drawn
invariant-loop-drawn l = CountSoFar l.most l.fn.element.chosen l.drawn (drop (l.index + 1) (elements_of l.pattern)) l.count
