-- The goal of `one_queue_is_alone` needs a lemma.
use Rattle.queue_pattern.proofs.SingleLemmas.{queues-singles}
use Rattle.queue_pattern.proofs.laws.one_queue_is_alone.Goals as goal

pub returns : goal.returns
returns c = queues-singles
