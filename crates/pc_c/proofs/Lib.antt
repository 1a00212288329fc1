-- Lemmas on words, on the input, on runs over slices, and on what a call for good queues or for solutions answers.
pub mod CallLemmas
pub mod InputLemmas
pub mod LineLemmas
pub mod NulLemmas
pub mod QueueLemmas
pub mod SolutionLemmas
pub mod WordLemmas
