-- Lemmas on digits, numbers and framing.
mod OptionTest
mod DigitTable
mod Numbers
mod Framings
mod Binds
mod Standing
mod NumberReadAsSpelled
mod ReadLoop
mod Answered
mod Worked
pub mod CallerLemmas
