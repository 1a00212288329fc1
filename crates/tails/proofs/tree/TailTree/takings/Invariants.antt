use Rattle.tails.proofs.LetterSteps.{HasTaken}
use Rattle.tails.proofs.tree.TailTree.takings.Given as goal

abbrev pub invariant-loop-letter : goal.invariant-loop-letter
invariant-loop-letter l = HasTaken l.state l.held l.code l.letter-index l.first l.takings.items
