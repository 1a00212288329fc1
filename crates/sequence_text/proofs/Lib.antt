-- Lemmas of this crate.
pub mod CallerLemmas
mod Bytes
mod Fronts
mod PlainForm
mod ReadText
mod SpelledForm
mod SpelledText
