-- What crates above cite: one output, and no fault that is not found by a command.
pub use Rattle.pc_cover.proofs.OneOutput.{one_cover_output}
pub use Rattle.pc_cover.proofs.CoverAnswers.{inner_cover}
