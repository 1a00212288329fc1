-- Lemmas of this crate.
pub mod CallerLemmas
pub mod CommandEnds
pub mod FieldFaults
pub mod FieldTasks
mod FieldLaws
mod InnerFaults
mod PageCells
mod SameProblems
mod ShowablePages
mod TextFaults
mod ToldFaults
