-- Lemmas that the crates above cite.
pub use Rattle.combo.proofs.LongestLemmas.{one_longest}
