-- Lemmas on the text of a placement.
mod Digits
mod ReadAsWritten
pub mod CallerLemmas
