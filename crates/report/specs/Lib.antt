-- What a reader must believe.
pub mod Forms
pub mod Grid
pub mod FumenLine
pub mod Writer
pub mod Keys
-- What serves proofs alone.
pub mod Played
pub mod HandsOn
