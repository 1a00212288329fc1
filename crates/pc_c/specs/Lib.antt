-- What a reader must believe.
pub mod Words
pub mod Call
pub mod OtherCommand
pub mod Asked
pub mod GoodQueues
pub mod Solutions
-- What serves proofs alone.
pub mod Ended
pub mod Answered
pub mod QueuesEnded
pub mod SolutionsEnded
