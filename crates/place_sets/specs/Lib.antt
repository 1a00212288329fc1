-- What a reader must believe: which placements the places hold.
pub mod Places
pub mod LowPlaces
-- What contracts cite beside these: sets of states as boards and as numbers, and how they spread.
pub mod States
pub mod Shifts
pub mod Numbers
-- What serves proofs alone: bits.
pub mod Scan
pub mod FourRows
pub mod Tops
