-- Lemmas that the crates above cite.
pub use Rattle.problem.proofs.Game.{IsLow, filled-low, locked-low}
pub use Rattle.problem.proofs.ListLaws.{next-first, next-none}
pub use Rattle.problem.proofs.NeededCount.{long-needed, needed-exact, needed-few}
pub use Rattle.problem.proofs.RunLemmas.{runs_take_cells}
