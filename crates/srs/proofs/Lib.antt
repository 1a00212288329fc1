-- Lemmas on lists, numbers, cells, shapes, tables of offsets and orders.
mod BooleanLemmas
mod MemberLemmas
mod RisingLemmas
mod CanonicalLemmas
mod CellLemmas
mod CodeLemmas
mod NumberLemmas
mod OrderLemmas
mod PlacementLemmas
mod ShapeLemmas
mod TableLemmas
pub mod CallerLemmas
