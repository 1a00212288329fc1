-- What a reader must believe.
pub mod Numbers
pub mod Options
pub mod Request
pub mod Values
pub mod Words
-- What contracts cite beside these: views of values, and readings and tests, each with its law.
pub mod Views
