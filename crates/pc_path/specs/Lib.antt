-- What a reader must believe.
pub mod Faults
pub mod Formats
pub mod Output
pub mod PathTask
pub mod Work
-- What serves proofs alone.
pub mod Writer
