-- What a reader must believe.
pub mod Lines
pub mod Output
pub mod PercentTask
