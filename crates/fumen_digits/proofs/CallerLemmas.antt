-- Lemmas that the crates above cite.
pub use Rattle.fumen_digits.proofs.Answered.{err_from_read, err_passed, gives_fault, gives_found, gives_same, ok_from_read, reads_err, reads_ok}
pub use Rattle.fumen_digits.proofs.Binds.{bind_err, bind_ok, err_bind, ok_bind}
pub use Rattle.fumen_digits.proofs.Framings.{digits_in-broken}
pub use Rattle.fumen_digits.proofs.NumberReadAsSpelled.{number_fault_from_read, read_from_number_fault, read_from_stands, stands_from_read}
pub use Rattle.fumen_digits.proofs.Numbers.{AreDigits-append, AreDigits-digits, AreDigits-flat_map, length-digits}
pub use Rattle.fumen_digits.proofs.OptionTest.{same_option, same_option-true}
pub use Rattle.fumen_digits.proofs.Standing.{Stands-is, Stands-nil, Stands-parts, Stands-same, Stands-then}
