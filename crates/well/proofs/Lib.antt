-- Lemmas on free placements, locking, counts, rows of bits and rows text.
mod FreeLemmas
mod WellFields
mod LockLemmas
mod CountLemmas
mod PackedBits
mod RowsLemmas
mod RowsTexts
mod FirstFault
mod Worked
pub mod CallerLemmas
