-- Lemmas of this crate, and worked cases of its definitions.
mod Moving
mod Worked
