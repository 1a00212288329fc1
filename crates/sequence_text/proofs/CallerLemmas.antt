-- Lemmas that the crates above cite.
pub use Rattle.sequence_text.proofs.Fronts.{one_sequence, refused_where_bad}
pub use Rattle.sequence_text.proofs.ReadText.{read_is_spelled}
pub use Rattle.sequence_text.proofs.SpelledForm.{written_is_spelled}
pub use Rattle.sequence_text.proofs.SpelledText.{spelled_is_read}
