-- Lemmas that the crates above cite.
pub use Rattle.cover.proofs.LawLemmas.{covered-solved, solved-permits}
