-- Lemmas that the crates above cite.
pub use Rattle.fumen_comment.proofs.CommentReadAsSpelled.{comment_fault_from_read, comment_from_read, read_from_comment, read_from_comment_fault}
pub use Rattle.fumen_comment.proofs.EscapeLaws.{IsMark, escaped_marks, escaped_printable, unescaped-escaped}
pub use Rattle.fumen_comment.proofs.ReadLoop.{from_nothing, regroup}
unfoldable pub use Rattle.fumen_comment.proofs.ReadLoop.{with_front}
pub use Rattle.fumen_comment.proofs.UnitLaws.{comment_fits, unescaped_fits}
pub use Rattle.fumen_comment.proofs.WrittenIsSpelled.{written_comment, written_digits}
