-- What a reader must believe.
pub mod Tasks
pub mod Run
-- What serves proofs alone.
pub mod Ran
