-- What the loop of `all_behind_letters` keeps.
use Rattle.tails.specs.TailSets.{has}
use Rattle.tails.proofs.AllSteps.{AreBehind}
use Rattle.tails.proofs.tree.TailTree.all_behind_letters.Given as goal

abbrev pub invariant-loop-letter : goal.invariant-loop-letter
invariant-loop-letter l = AreBehind l.self l.state (has l.all) l.letter-index
