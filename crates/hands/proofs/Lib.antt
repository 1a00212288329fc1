-- The lemmas of this crate.
pub mod CallerLemmas
pub mod HandLemmas
pub mod HasLemmas
pub mod WeightLemmas
pub mod AllowingLemmas
