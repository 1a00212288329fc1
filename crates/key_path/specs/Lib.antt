-- What a reader must believe
pub mod KeyWords
pub mod LeastKeyWord
-- What contracts cite beside these: views of values, and readings and tests, each with its law
pub mod Known
-- What serves proofs alone
pub mod Marks
pub mod Search
