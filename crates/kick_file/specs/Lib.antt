-- What a reader must believe
pub mod Form
pub mod Faults
pub mod Printed
-- What contracts cite beside these: views of values, parts, readings and tests
pub mod Reading
pub mod Printing
-- What serves proofs alone
pub mod Reader
