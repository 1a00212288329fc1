-- What a reader must believe
pub mod Permits
pub mod QueueSet
pub mod Supply
pub mod AtHand
pub mod Hand
-- What the invariants of types cite: what their private fields hold and stand for
pub mod States
pub mod Family
