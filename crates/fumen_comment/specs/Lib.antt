-- What a reader must believe
pub mod Escape
pub mod Unescape
pub mod Part
pub mod Faults
-- What contracts cite beside these: views of values, and readings and tests, each with its law
pub mod Reading
