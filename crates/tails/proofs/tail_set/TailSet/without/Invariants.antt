use Rattle.tails.specs.TailSets.{has}
use Rattle.tails.proofs.KeptSteps.{HasKept}
use Rattle.tails.proofs.tail_set.TailSet.without.Given as goal

abbrev pub invariant-loop-block : goal.invariant-loop-block
invariant-loop-block l = HasKept (has l.fn.other) l.fn.self.blocks.items l.block-index l.tails
