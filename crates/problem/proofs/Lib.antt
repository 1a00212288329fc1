-- Lemmas on problems and their solutions.
mod Game
mod NeededCount
mod ListLaws
mod RunLemmas
pub mod CallerLemmas
