-- Lemmas of this crate.
pub mod CallerLemmas
mod OneMore
mod Pairs
mod Ranges
mod Refusals
