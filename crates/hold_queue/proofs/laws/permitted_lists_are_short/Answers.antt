-- The goals of `permitted_lists_are_short` that need lemmas.
use Rattle.hold_queue.proofs.LengthLemmas.{line-length}
use Rattle.hold_queue.proofs.laws.permitted_lists_are_short.Goals as goal

pub returns : goal.returns
returns c = line-length
