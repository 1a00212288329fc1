-- Lemmas on keys, steps, rests and places, and on the sky and the window.
mod WalkLemmas
mod RestTest
mod StateLemmas
mod StepLemmas
mod TurnLemmas
mod RestLemmas
mod PlaceFree
mod PlaceTest
mod TableFacts
mod OpenLemmas
mod SkyLemmas
mod AboveRest
mod SoftPlaces
mod HardLemmas
mod LaneFacts
mod HardPlaces
mod LaneLemmas
mod WindowLemmas
mod Worked
pub mod CallerLemmas
