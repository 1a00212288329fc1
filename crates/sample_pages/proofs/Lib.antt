-- Lemmas on drawn pages.
pub mod CallerLemmas
mod DrawnPages
mod PageLemmas
