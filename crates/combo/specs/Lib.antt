-- What a reader must believe
pub mod Longest
pub mod Room
-- What serves proofs alone
pub mod First
pub mod Searched
pub mod Middle
