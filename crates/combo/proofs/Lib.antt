-- Lemmas on runs.
mod FirstLemmas
mod BoundLemmas
pub mod CallerLemmas
mod LongestExists
mod LongestLemmas
mod StoreLemmas
mod PlacesLeft
mod RoomRows
mod RoomCells
mod RoomLemmas
mod MiddleLemmas
mod Worked
