-- Lemmas of this crate.
pub mod CallerLemmas
