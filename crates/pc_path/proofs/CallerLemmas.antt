-- What crates above cite: one output, no fault that is not found by a command, and how a search goes on.
pub use Rattle.pc_path.proofs.OneOutput.{one_path_output, shared_path_output}
pub use Rattle.pc_path.proofs.PathAnswers.{inner_path}
pub use Rattle.pc_path.proofs.Reports.{next_plays}
pub use Rattle.pc_path.proofs.Searching.{drop_next, goes_on, take_next, within_next}
