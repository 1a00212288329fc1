-- The lemmas of this crate.
mod SpanBits
mod ColumnBits
mod SentLemmas
mod Mirrors
mod EmptiesLemmas
mod FoundCells
mod SupplyLemmas
mod SupplyWordLemmas
mod PivotLemmas
mod StackLemmas
mod RowLemmas
mod FilledRows
mod ChosenLemmas
mod FormLemmas
mod FillLemmas
mod MovedTilings
mod MovedRows
mod RefusalLemmas
mod ShiftedLemmas
mod PlacedBits
mod SameTilings
mod HasTilingLemmas
pub mod CallerLemmas
