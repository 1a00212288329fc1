-- What a reader must believe: keys and places, and then what lies above the stack, resting states and the window
pub mod Keys
pub mod Step
pub mod Leads
pub mod Rest
pub mod Place
pub mod Height
pub mod Sky
pub mod RestingStates
pub mod Window
pub mod SkyLaws
-- What contracts cite beside these: the test of a place, with its law, and walks by keys
pub mod PlaceTest
pub mod Walk
-- What serves proofs alone: numbers of states, the open as rotations and columns, and floods below a lane
pub mod States
pub mod OpenKeys
pub mod Lanes
