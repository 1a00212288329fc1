-- What a reader must believe: nothing of this crate.
-- What serves proofs alone: the flood on lanes.
pub mod SkyBoard
pub mod LaneTurns
pub mod LaneFlood
pub mod LaneShapes
pub mod LaneMap
pub mod LanePlaces
pub mod LaneTests
pub mod SoftLanes
