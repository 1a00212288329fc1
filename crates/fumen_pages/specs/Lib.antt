-- What a reader must believe
pub mod Cells
pub mod Lists
pub mod Letters
pub mod Action
pub mod Sound
pub mod Next
pub mod Record
pub mod Tail
pub mod Written
pub mod Faults
-- What contracts cite beside these: views of values, and readings and tests, each with its law
pub mod Reading
