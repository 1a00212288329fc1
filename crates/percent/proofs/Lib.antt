-- The lemmas of this crate.
pub mod CallerLemmas
mod GoodLemmas
mod KeptLemmas
mod ListedTails
mod SentLemmas
mod MarkLemmas
mod PlaceLemmas
mod GoodSteps
mod StartLemmas
mod AnswerLemmas
mod TiledLemmas
mod FittingLemmas
mod SpreadLemmas
mod RestingLemmas
mod BuiltLemmas
mod RestLemmas
mod ServedLemmas
mod BuildingLemmas
