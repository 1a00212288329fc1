-- What crates above cite: one output, and no fault that is not found by a command.
pub use Rattle.pc_combo.proofs.OneOutput.{one_combo_output}
pub use Rattle.pc_combo.proofs.ComboAnswers.{inner_combo}
