-- The goals of `permits_is_decided` that need lemmas.
use Rattle.hold_queue.proofs.PermitsTest.{permits-decides, queues_permit-decides}
use Rattle.hold_queue.proofs.laws.permits_is_decided.Goals as goal

pub returns-clause-queue : goal.returns-clause-queue
returns-clause-queue c = permits-decides

pub returns-clause-line : goal.returns-clause-line
returns-clause-line c = queues_permit-decides
