-- Lemmas of this crate.
pub mod CallerLemmas
mod FailedLines
mod FailedSteps
mod OneOutput
mod PercentAnswers
