-- Lemmas that the crates above cite.
pub use Rattle.pc_words.proofs.Ranges.{asked_in_range}
