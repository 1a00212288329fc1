-- Lemmas on lines, on grids and on fumens.
mod LineLemmas
mod Columns
mod GreyLemmas
mod GridLemmas
mod PageFields
mod LineFields
mod FumenLemmas
mod HeldLemmas
