-- What a reader must believe.
pub mod Numbers
-- What serves proofs alone.
pub mod Reading
