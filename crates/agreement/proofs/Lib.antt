-- Lemmas on what the answers of several crates have to do with each other.
mod GoodCovered
