-- The length of the list.
use Rattle.std.proofs.Common.{arith}
use Rattle.tails.specs.TailSets.{block_count}
use Rattle.tails.proofs.tail_set.TailSet.block_count.Goals as goal

pub returns-clause-value : goal.returns-clause-value
unfolding block_count
returns-clause-value c = omega arith
