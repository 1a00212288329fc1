-- Lemmas on tilings.
mod CellCounts
mod EmptyCells
mod PartLemmas
mod RowMaps
mod RowOrigins
mod PartsOfTilings
mod PlacedLemmas
mod ColumnCounts
mod WallLemmas
mod RefusalLemmas
mod UnevenParts
mod EvenColumns
mod RunLemmas
mod MirrorLemmas
pub mod CallerLemmas
