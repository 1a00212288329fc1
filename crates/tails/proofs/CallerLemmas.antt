-- The lemmas that other crates cite.
pub use Rattle.tails.proofs.AddSteps.{or_false}
pub use Rattle.tails.proofs.EmptyLemmas.{none-counted}
pub use Rattle.tails.proofs.LawLemmas.{hand-leads}
pub use Rattle.tails.proofs.StartHands.{start-hand}
