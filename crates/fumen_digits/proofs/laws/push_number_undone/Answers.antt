-- What was written is digits, and is read again.
use Rattle.std.proofs.Common.{rules}
use Rattle.fumen_digits.proofs.Numbers.{AreDigits-digits}
use Rattle.fumen_digits.proofs.NumberReadAsSpelled.{read_from_stands}
use Rattle.fumen_digits.proofs.laws.push_number_undone.Goals as goal

pub returns-clause-digits : goal.returns-clause-digits
returns-clause-digits c = AreDigits-digits

pub returns-clause-read : goal.returns-clause-read
returns-clause-read c = search (rules, read_from_stands)
