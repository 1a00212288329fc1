-- Lemmas that the crates above cite.
pub use Rattle.placement_form.proofs.Digits.{IsDigit, IsRowOf, both_digits, digit_only, digit_read, two_digits, two_only, two_read}
pub use Rattle.placement_form.proofs.ReadAsWritten.{piece_only, piece_read, read-from_written, rotation_only, written-from_read}
