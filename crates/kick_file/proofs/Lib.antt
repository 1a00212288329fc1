-- Lemmas on table texts.
pub mod CallerLemmas
mod GivenLemmas
mod Steps
mod Numbers
mod Entries
mod SpelledIsRead
mod ReadIsSpelled
mod Standing
mod Moving
mod OneReading
mod PrintLemmas
