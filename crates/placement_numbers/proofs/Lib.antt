-- Lemmas on the numbers of placements.
mod ReadAsTheyStand
mod OneMore
pub mod CallerLemmas
