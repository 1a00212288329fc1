-- The law is two lemmas.
use Rattle.queue_pattern.proofs.CutQueues.{queues-divided, queues-fronts}
use Rattle.queue_pattern.proofs.laws.queues_are_cut.Goals as goal

pub returns-clause-divided : goal.returns-clause-divided
returns-clause-divided c = queues-divided

pub returns-clause-fronts : goal.returns-clause-fronts
returns-clause-fronts c = queues-fronts
