-- What a reader must believe
pub mod Field
pub mod FullRows
pub mod CellCount
pub mod RemovalLaws
pub mod Board
pub mod Words
-- What contracts cite beside these: views of values, parts, readings and tests
pub mod Lanes
pub mod LowestBit
