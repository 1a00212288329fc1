-- What a reader must believe
pub mod TilingLists
pub mod Standing
pub mod Built
pub mod Served
pub mod RowOrders
-- What the invariants of types cite: what their private fields hold and stand for
pub mod RowBits
pub mod Words
-- What serves proofs alone
pub mod Orders
pub mod Listings
