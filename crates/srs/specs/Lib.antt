-- What a reader must believe: lists of any things, and then pieces and placements
pub mod Rising
pub mod Forms
pub mod Piece
pub mod Rotation
pub mod Cells
pub mod SameCells
pub mod Canonical
pub mod Order
pub mod Kick
pub mod Rules
-- What contracts cite beside these: views of values, and readings and tests, each with its law
pub mod Placements
