-- What a reader must believe.
pub mod KicksTask
pub mod Lines
pub mod Output
