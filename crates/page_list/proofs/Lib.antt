-- Lemmas on lines of pages and their fields.
mod RowLemmas
-- Lemmas of rows that are read.
mod ReadLemmas
-- Lemmas of cells that are written.
mod PutLemmas
-- Lemmas of lists of lines.
mod ListLemmas
-- Laws of texts that are cut.
mod CutLaws
-- Laws of the cells field.
mod CellsReadAsSpelled
-- Laws of the other fields.
mod FieldsReadAsSpelled
-- Laws of a line.
mod LineReadAsSpelled
-- Laws of the first line.
mod FirstLine
-- Laws of the lines of a text.
mod TextLines
-- Laws of texts of lines.
mod PagesReadAsSpelled
-- Laws of the bytes of fields.
mod Marks
-- Laws of printed lines.
mod PrintedIsSpelled
-- Laws of the cells that are spelled.
mod SpelledCells
-- Worked texts.
mod Worked
pub mod CallerLemmas
