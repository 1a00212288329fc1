-- The lemmas that other crates cite.
pub use Rattle.hands.proofs.AllowingLemmas.{has_bit-one}
pub use Rattle.hands.proofs.HandLemmas.{takes-from, takes-to}
pub use Rattle.hands.proofs.HasLemmas.{has-all, has-more, has-none, has-push, has-there, number-at}
pub use Rattle.hands.proofs.WeightLemmas.{takes-first}
