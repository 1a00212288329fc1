-- Lemmas that the crates above cite.
pub use Rattle.fumen_text.proofs.SpelledPages.{spelled_sound, spelled_units}
pub use Rattle.fumen_text.proofs.TextReadAsSpelled.{one_list, read_from_text, read_from_text_fault, text_from_read}
pub use Rattle.fumen_text.proofs.WrittenIsRead.{written_reads}
