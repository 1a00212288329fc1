-- What was broken into lines is read again.
use Rattle.fumen_digits.proofs.Framings.{digits_in-broken}
use Rattle.fumen_digits.proofs.laws.break_lines_undone.Goals as goal

pub returns : goal.returns
returns c = digits_in-broken
