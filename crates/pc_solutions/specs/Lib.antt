-- What a reader must believe.
pub mod Asked
pub mod Written
-- What contracts cite beside these: what a refusal of the listing becomes.
pub mod Told
