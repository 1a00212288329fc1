-- What a reader must believe
pub mod Empties
-- What contracts cite beside these: views of values, parts, readings and tests
pub mod PivotWords
pub mod SupplyWords
pub mod Spans
pub mod ShiftedCells
pub mod Stacks
pub mod HasTiling
pub mod Refusals
pub mod SentCells
-- What serves proofs alone
pub mod ShapeBits
