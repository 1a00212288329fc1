-- What a reader must believe
pub mod Counts
pub mod Counted
pub mod Reads
pub mod Writes
pub mod MemorySource
pub mod MemorySink
pub mod SliceSink
pub mod SliceSinkView
-- What serves proofs alone
pub mod CountLaws
pub mod ReadLaws
pub mod WriteLaws
