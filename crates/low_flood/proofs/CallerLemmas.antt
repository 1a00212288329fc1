-- Lemmas that the crates above cite.
pub use Rattle.low_flood.proofs.LowLemmas.{places_under}
