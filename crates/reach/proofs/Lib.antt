-- The lemmas of this crate.
mod SameOffsets
