-- What a reader must believe
pub mod Good
pub mod OpenRows
pub mod Fitting
pub mod BuiltHands
-- What contracts cite beside these: views of values, and readings and tests, each with its law
pub mod Answers
pub mod GoodHands
pub mod GoodTails
-- What the invariants of types cite: what their private fields hold and stand for
pub mod Counts
pub mod Kept
pub mod Spread
pub mod QueueAnswers
-- What serves proofs alone
pub mod LeftOut
pub mod Children
pub mod Marks
pub mod ListedHands
pub mod Wanted
pub mod Standing
pub mod Building
