-- The law is a lemma.
use Rattle.queue_pattern.proofs.QueueLengths.{queues-long}
use Rattle.queue_pattern.proofs.laws.queues_are_as_long.Goals as goal

pub returns : goal.returns
returns c = queues-long
