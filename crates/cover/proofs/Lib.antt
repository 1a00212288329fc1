-- The lemmas of this crate.
mod ReadLemmas
mod PieceEqual
mod NodeLemmas
mod GrownLemmas
mod WayLemmas
mod TreeFacts
mod LookLemmas
mod FrontLemmas
mod KindLemmas
mod KeepLemmas
mod PlayLemmas
mod NextLemmas
mod LawLemmas
pub mod CallerLemmas
mod CoveredExists
mod Worked
