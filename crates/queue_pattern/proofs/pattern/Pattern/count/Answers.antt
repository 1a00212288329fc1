-- The goals of `Pattern::count` that need lemmas.
use Rattle.std.proofs.Common.{◌∙◌, sym}
use Rattle.queue_pattern.specs.Pattern.{elements_of}
use Rattle.queue_pattern.proofs.QueueLemmas.{length-queues}
use Rattle.queue_pattern.proofs.pattern.Pattern.count.Goals as goal

pub returns-clause-number : goal.returns-clause-number
unfolding elements_of
returns-clause-number c = c.args.self.now.counted ∙ sym (length-queues (elements_of c.args.self.now))
