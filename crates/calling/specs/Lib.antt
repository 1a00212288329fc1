-- What a reader must believe
pub mod Counts
pub mod FirstFailed
pub mod FirstMove
pub mod Rewritten
