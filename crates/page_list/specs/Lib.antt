-- What a reader must believe
pub mod PrintedLine
pub mod Divided
pub mod LineSpelling
-- What contracts cite beside these: views of values, and readings and tests, each with its law
pub mod ListReading
pub mod CellsReading
pub mod LineReading
pub mod FieldsReading
