-- What a reader must believe
pub mod Dialect
pub mod Digit
pub mod Number
pub mod Fault
pub mod Framing
pub mod ReadResults
-- What contracts cite beside these: views of values, and readings and tests, each with its law
pub mod Reading
