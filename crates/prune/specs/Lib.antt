-- The definitions that the contracts of this crate cite.

-- What a reader must believe
pub mod Tiling
pub mod Counts
pub mod Walls
pub mod Laws
-- What contracts cite beside these: views of values, parts, readings and tests
pub mod OnePart
pub mod Mirror
