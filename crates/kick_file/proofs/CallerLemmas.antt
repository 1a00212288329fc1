-- Lemmas that the crates above cite.
pub use Rattle.kick_file.proofs.PrintLemmas.{kick_short}
