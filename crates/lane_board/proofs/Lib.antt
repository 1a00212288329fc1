-- The lemmas of this crate.
mod CellTests
mod Removal
mod CellCounts
mod RowBits
mod LowestBits
mod BoardRows
mod EightRows
mod RowTables
mod BoardCounts
mod FullMask
mod RowRemoval
mod MovedRows
mod MovedLanes
mod BoardCuts
mod CountWith
mod BoardFields
mod FullCells
mod Worked
pub mod CallerLemmas
