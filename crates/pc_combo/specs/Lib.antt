-- What a reader must believe.
pub mod Faults
pub mod Output
pub mod ComboTask
