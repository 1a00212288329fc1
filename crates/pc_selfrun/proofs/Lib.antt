-- Lemmas of this crate.
pub mod CallerLemmas
mod ColumnFacts
mod ColumnField
mod ColumnProblem
mod Counting
mod PageEqual
mod LineText
mod MadePages
mod OneOutput
mod SequenceCount
mod SequenceNumbers
