-- Lemmas of this crate.
mod TakenPlaces
mod SecondPieces
mod ListedSolutions
mod FailedQueues
mod FirstPlacement
mod GrownComments
