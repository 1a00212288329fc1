use Rattle.tails.proofs.AddSteps.{IsReached}
use Rattle.tails.proofs.tail_set.TailSet.insert_block.Given as goal

abbrev pub invariant-loop-index : goal.invariant-loop-index
invariant-loop-index l = IsReached l.self.blocks.items l.index l.block.key

abbrev pub decreases-loop-index : goal.decreases-loop-index
decreases-loop-index l = l.index
