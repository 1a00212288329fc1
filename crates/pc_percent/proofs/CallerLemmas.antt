-- What crates above cite: one output, and no fault that is not found by a command.
pub use Rattle.pc_percent.proofs.OneOutput.{one_percent_output}
pub use Rattle.pc_percent.proofs.PercentAnswers.{inner_percent}
