-- What fits so far, and the rest, which has fewer blocks each time.
use Rattle.tails.specs.TailSets.{block_count}
use Rattle.percent.proofs.FittingLemmas.{FitsOfTree}
use Rattle.percent.proofs.fitting.fitting_in_parts.Given as goal

abbrev pub invariant-loop-alloc : goal.invariant-loop-alloc
invariant-loop-alloc l = FitsOfTree l.tree l.position l.left l.tails l.fit l.rest

abbrev pub decreases-loop-alloc : goal.decreases-loop-alloc
decreases-loop-alloc l = block_count l.rest
