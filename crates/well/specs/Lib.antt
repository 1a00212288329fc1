-- What a reader must believe
pub mod Free
pub mod Lock
pub mod LockLaws
pub mod Rows
pub mod RowsFaults
pub mod Counts
pub mod Well
-- What contracts cite beside these: views of values, and readings and tests, each with its law
pub mod CellBits
-- What serves proofs alone
pub mod RowsReading
