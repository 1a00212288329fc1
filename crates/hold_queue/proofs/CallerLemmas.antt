-- Lemmas that the crates above cite.
pub use Rattle.hold_queue.proofs.PermitsTest.{permits-decides, queues_permit-decides}
pub use Rattle.hold_queue.proofs.SupplyLemmas.{supply-enough}
pub use Rattle.hold_queue.proofs.AtHandLemmas.{permits-of_takes, take-cases, take-of_first, take-of_second, takes-length, takes-of_permits}
pub use Rattle.hold_queue.proofs.CutLemmas.{takes-is_cut}
pub use Rattle.hold_queue.proofs.DrawnRests.{Contains-piece}
pub use Rattle.hold_queue.proofs.HandLemmas.{same-itself, same-shorter}
