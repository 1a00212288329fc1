-- Lemmas of this crate.
pub mod CallerLemmas
mod ComboAnswers
mod OneOutput
mod OneQueue
