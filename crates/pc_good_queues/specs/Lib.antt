-- What a reader must believe.
pub mod Bits
pub mod GoodQueues
pub mod Refusals
-- What contracts cite beside these: what a refusal of the problem becomes.
pub mod Told
-- What serves proofs alone.
pub mod Flags
