-- Lemmas on key words and their order, on the search for states, and on its marks.
mod WordLemmas
mod SearchLemmas
mod AimLemmas
mod MarkLemmas
mod KeyWordLemmas
mod NewStates
mod FreeLemmas
mod FindLemmas
mod Worked
pub mod CallerLemmas
