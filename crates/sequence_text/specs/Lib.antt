-- What a reader must believe.
pub mod Form
pub mod Written
-- What contracts cite beside these: views of values, and readings and tests, each with its law.
pub mod Reading
-- What serves proofs alone.
pub mod Plain
