-- What crates above cite: whether a queue is good is decided by a test.
pub use Rattle.percent.proofs.GoodLemmas.{good-decides}
