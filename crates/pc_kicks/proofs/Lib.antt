-- Lemmas of this crate.
pub mod CallerLemmas
mod LineLemmas
