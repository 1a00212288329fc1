-- Lemmas that the crates above cite.
pub use Rattle.fact_table.proofs.FactLemmas.{facts-entry, facts-none, facts-put}
pub use Rattle.fact_table.proofs.SlotLemmas.{none-put, slot-among}
