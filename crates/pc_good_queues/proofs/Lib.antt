-- Lemmas of this crate.
mod BitLemmas
mod CallLemmas
mod FlagLemmas
