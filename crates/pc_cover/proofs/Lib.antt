-- Lemmas of this crate.
mod GivenLemmas
mod CoveringLemmas
mod CoverAnswers
mod OneOutput
mod LineLaws
pub mod CallerLemmas
