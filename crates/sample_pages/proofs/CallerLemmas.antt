-- Lemmas that the crates above cite.
pub use Rattle.sample_pages.proofs.DrawnPages.{IsShortComment, comment_drawn-short, draw_below, length-pages_drawn, page_drawn-sound}
pub use Rattle.sample_pages.proofs.PageLemmas.{empty_sound}
