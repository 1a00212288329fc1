-- What a reader must believe.
pub mod Ends
pub mod Faults
pub mod FieldTask
pub mod FieldText
pub mod Problem
pub mod ProblemFaults
pub mod Sink
pub mod Source
pub mod Statuses
pub mod Task
pub mod Work
-- What contracts cite beside these: views of values, and readings and tests, each with its law.
pub mod Had
-- What serves proofs alone.
pub mod Told
