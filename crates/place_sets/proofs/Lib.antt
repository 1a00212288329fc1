-- The lemmas of this crate.
mod FieldLemmas
mod MovedCells
mod StateSets
mod SpreadLemmas
mod ScanLemmas
mod WordLemmas
mod NumberLemmas
mod WordsInUse
mod PlaceNumbers
mod TakeLemmas
mod LowPlaceLemmas
mod PieceIndex
pub mod CallerLemmas
