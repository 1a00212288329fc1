use Rattle.std.proofs.Common.{◌-◌, length}
use Rattle.tails.proofs.MergeSteps.{Merged}
use Rattle.tails.proofs.tail_set.TailSet.merged.Given as goal

abbrev pub invariant-loop-next : goal.invariant-loop-next
invariant-loop-next l = Merged l.tails l.fn.self.blocks.items l.others l.block-index l.next

abbrev pub decreases-loop-next : goal.decreases-loop-next
decreases-loop-next l = length l.others - l.next

abbrev pub invariant-loop-block : goal.invariant-loop-block
invariant-loop-block l = Merged l.tails l.fn.self.blocks.items l.others l.block-index l.next

abbrev pub invariant-loop-next-2 : goal.invariant-loop-next-2
invariant-loop-next-2 l = Merged l.tails l.fn.self.blocks.items l.others (length l.fn.self.blocks.items) l.next

abbrev pub decreases-loop-next-2 : goal.decreases-loop-next-2
decreases-loop-next-2 l = length l.others - l.next
