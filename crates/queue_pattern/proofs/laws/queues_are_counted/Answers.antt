-- The goals of `queues_are_counted` that need lemmas.
use Rattle.queue_pattern.proofs.QueueLemmas.{length-queues}
use Rattle.queue_pattern.proofs.laws.queues_are_counted.Goals as goal

pub returns : goal.returns
returns c = length-queues
