-- Each block has a tail.
use Rattle.std.proofs.Common.{arith}
use Rattle.tails.proofs.EmptyLemmas.{empty-if}
use Rattle.tails.proofs.tail_set.TailSet.is_empty.Goals as goal

pub returns : goal.returns
returns c = empty-if c.args.self.now _ c.is_empty.result (omega arith) c.is_empty.ensures
