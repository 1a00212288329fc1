-- What a reader must believe.
pub mod Codes
pub mod FaultLine
pub mod FirstFault
-- What serves proofs alone.
pub mod FaultNumbers
pub mod Inner
