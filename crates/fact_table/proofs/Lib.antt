-- The lemmas of this crate.
mod FactLemmas
mod SlotLemmas
pub mod CallerLemmas
