-- What a reader must believe.
pub mod Count
pub mod WriteCause
