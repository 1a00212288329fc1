-- What a reader must believe
pub mod Covered
pub mod Kept
-- What the invariants of types cite: what their private fields hold and stand for
pub mod Lists
pub mod Nodes
pub mod Tree
-- What serves proofs alone
pub mod Look
pub mod Fronts
