-- Lemmas of this crate.
mod Answering
mod Commands
mod Ending
