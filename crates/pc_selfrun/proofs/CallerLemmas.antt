-- What crates above cite: one output.
pub use Rattle.pc_selfrun.proofs.OneOutput.{one_selfrun_output}
