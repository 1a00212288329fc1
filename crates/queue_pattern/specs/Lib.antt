-- What a reader must believe
pub mod Queues
pub mod Order
pub mod Spelling
pub mod Grammar
pub mod Form
pub mod Faults
pub mod Pattern
pub mod Cut
-- What the invariants of types cite: what their private fields hold and stand for
pub mod Sound
-- What serves proofs alone
pub mod Builder
pub mod Reading
