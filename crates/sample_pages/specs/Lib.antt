-- What a reader must believe.
pub mod Draws
pub mod Pages
