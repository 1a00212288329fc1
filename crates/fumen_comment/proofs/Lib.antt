-- Lemmas on escaping and on the comment part.
mod Tables
mod Packing
mod UnescapeLoop
mod WriteLoop
mod EscapeLaws
mod ReadLoop
mod Groups
mod CommentReadAsSpelled
mod FirstGroup
mod WrittenIsSpelled
mod Worked
mod UnitLaws
pub mod CallerLemmas
