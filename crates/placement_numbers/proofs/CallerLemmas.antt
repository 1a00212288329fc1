-- Lemmas that the crates above cite.
pub use Rattle.placement_numbers.proofs.ReadAsTheyStand.{numbers_length}
