-- What a reader must believe.
pub mod Request
-- What contracts cite beside these: views of values, and readings and tests, each with its law.
pub mod Views
