-- What a reader must believe
pub mod States
pub mod Numbers
pub mod Tails
pub mod Blocks
pub mod TailSets
-- What the invariants of types cite: what their private fields hold and stand for
pub mod Trees
pub mod Lists
-- What serves proofs alone
pub mod Takings
pub mod MadeStates
pub mod Listings
