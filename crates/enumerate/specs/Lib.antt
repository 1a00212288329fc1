-- What a reader must believe
pub mod SearchState
pub mod Work
pub mod Counted
pub mod Items
-- What contracts cite beside these: views of values
pub mod ViewOf
-- What the invariants of types cite: what their private fields hold and stand for
pub mod Events
pub mod Frames
pub mod Rest
pub mod Setups
pub mod Standing
-- What serves proofs alone
pub mod Settled
pub mod Tries
pub mod Walks
pub mod Seeks
