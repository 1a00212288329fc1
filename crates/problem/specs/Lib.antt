-- What a reader must believe.
pub mod Plays
pub mod Problem
pub mod Faults
pub mod Solution
pub mod SolutionList
pub mod Runs
