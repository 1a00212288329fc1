-- What a reader must believe.
pub mod Spelling
pub mod Given
pub mod Faults
pub mod Lines
pub mod Output
pub mod Work
pub mod CoverTask
-- What serves proofs alone.
pub mod LineSteps
pub mod Sequences
pub mod Covering
pub mod LineStatus
