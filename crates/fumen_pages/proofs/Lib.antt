-- Lemmas on pages: their cells, their rows, their actions, and what one leaves for the next.
mod InsideLaws
mod RowLaws
mod ShownRows
mod NextLaws
mod NextSound
mod FlagLaws
mod ActionReadAsSpelled
mod PageReadAsSpelled
mod RunsReadAsSpelled
mod RecordReadAsSpelled
mod RecordLoop
mod WrittenRecordIsSpelled
mod WriteLoop
mod WrittenActionIsSpelled
mod Worked
pub mod CallerLemmas
