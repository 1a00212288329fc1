-- The lemmas of this crate.
mod ReachedLemmas
mod TurnLemmas
mod SpreadReached
mod SettleLemmas
mod FloodLemmas
mod KickLemmas
mod RestLemmas
mod OpenedLemmas
mod StartLemmas
mod KeyLemmas
mod FoldLemmas
mod PlaceLemmas
