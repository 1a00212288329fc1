-- What a reader must believe: where a piece is free.
pub mod FreePivots
-- What serves proofs alone: the flood.
pub mod Kicks
pub mod Opened
pub mod Flood
pub mod Rested
pub mod Folded
pub mod Started
