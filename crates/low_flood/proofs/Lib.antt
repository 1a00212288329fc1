-- The lemmas of this crate.
mod SkyBoards
mod LaneTurns
mod LaneClosed
pub mod CallerLemmas
mod ClassLemmas
mod ShapeLemmas
mod LaneMaps
mod LanePlaceLemmas
mod LowLemmas
mod LaneTests
mod LaneSound
mod SoftLemmas
mod SoftPlaces
