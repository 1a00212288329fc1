-- Lemmas of this crate.
pub mod CallerLemmas
mod EncodeFaults
mod EncodedText
mod OneOutput
mod ShownPages
