-- The lemmas of this crate.
mod SearchLemmas
