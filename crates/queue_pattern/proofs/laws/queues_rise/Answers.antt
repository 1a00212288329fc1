-- The goals of `queues_rise` that need lemmas.
use Rattle.queue_pattern.proofs.RisingQueues.{queues-rise, queues-distinct}
use Rattle.queue_pattern.proofs.laws.queues_rise.Goals as goal

pub returns-clause-rising : goal.returns-clause-rising
returns-clause-rising c = queues-rise

pub returns-clause-distinct : goal.returns-clause-distinct
returns-clause-distinct c = queues-distinct
