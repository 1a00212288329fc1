-- Lemmas of this crate.
mod Alike
mod Outputs
mod OutputsOfWords
mod Problems
mod SharedOutputs
mod Tables
mod Wells
