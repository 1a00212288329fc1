-- The goals of `QueueSet::permitted` that need lemmas.
use Rattle.std.proofs.Common.{rules}
use Rattle.hold_queue.proofs.SetFacts.{set-each, set-permitted}
use Rattle.hold_queue.proofs.set.QueueSet.permitted.Goals as goal

pub returns : goal.returns
returns c = search (rules, set-permitted, set-each)
