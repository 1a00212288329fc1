-- The definitions that the contracts of this crate cite.

-- What a reader must believe
pub mod Question
pub mod Use
-- What contracts cite beside these: views of values
pub mod Memo
-- What the invariants of types cite: what their private fields hold and stand for
pub mod Keys
