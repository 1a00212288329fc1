-- Lemmas on what queues permit, and on the states of a queue set.
mod PermitsTest
mod FamilyBits
mod DrawLemmas
mod InProgress
mod RestLemmas
mod DrawnRests
mod StepLemmas
mod SetFacts
mod FollowLemmas
mod HoldingLemmas
mod LengthLemmas
mod SupplyLemmas
mod AtHandLemmas
mod HandLemmas
mod CutLemmas
mod FirstHeld
pub mod CallerLemmas
