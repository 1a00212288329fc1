-- Lemmas of this crate.
pub mod CallerLemmas
mod AfterFaults
mod OneOutput
mod PathAnswers
mod Reports
mod Searching
mod WrittenText
mod Formatted
