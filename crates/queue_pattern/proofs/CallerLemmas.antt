-- Lemmas that the crates above cite.
pub use Rattle.queue_pattern.proofs.BuilderLemmas.{queue_count-append, sound-set, sound-within}
pub use Rattle.queue_pattern.proofs.ChoiceLemmas.{IsSet, filter-set, length-choices, length-others, others-set, pieces_in-set}
pub use Rattle.queue_pattern.proofs.CutLemmas.{count-cut, cut-all, cut-more, cut-none, cut-zero, queue_len-cut, sound-cut}
pub use Rattle.queue_pattern.proofs.CutQueues.{fronts-get, queues-divided, queues-fronts}
pub use Rattle.queue_pattern.proofs.FallingLemmas.{falling_factor-add, falling_factor-more, falling_factor-some}
pub use Rattle.queue_pattern.proofs.FrontLemmas.{IsShared, count-fronts, front-at, front-within, shared-quotient}
pub use Rattle.queue_pattern.proofs.LastElements.{fewer-behind, last-fewer, last-part, last-some, queues-at, queues-times, sound-last}
pub use Rattle.queue_pattern.proofs.LimitLemmas.{length-le-queue_len, queue_count-some, sound-some}
pub use Rattle.queue_pattern.proofs.PatternFacts.{pattern-alone, pattern-count, pattern-few, pattern-short, pattern-some, pattern-sound, pattern-sound_at}
pub use Rattle.queue_pattern.proofs.QueueLemmas.{behind, length-queues, length-tails, queues-none, queues-tails, tails-get, tails-more, tails-none, uniform-behind}
pub use Rattle.queue_pattern.proofs.QueueLengths.{queues-long}
pub use Rattle.queue_pattern.proofs.RisingQueues.{queues-distinct, queues-rise}
pub use Rattle.queue_pattern.proofs.SetLemmas.{filter_twice, pieces_in-without, same_true, single-sound}
pub use Rattle.queue_pattern.proofs.SingleLemmas.{queues-singles}
pub use Rattle.queue_pattern.proofs.UniformLemmas.{IsUniform, get-uniform, length-uniform}
