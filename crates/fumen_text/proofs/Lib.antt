-- Lemmas on pages that are read one after the other.
mod CellsReadAsSpelled
mod PageReadAsSpelled
mod WholePages
mod PagesReadAsSpelled
mod TextReadAsSpelled
mod ReadLoop
mod WrittenIsSpelled
mod WrittenIsRead
mod FoundFirst
mod WriteLoop
mod Worked
mod SpelledPages
pub mod CallerLemmas
