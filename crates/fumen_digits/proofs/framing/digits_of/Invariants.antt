-- The first prefix is not among the bytes so far.
use Rattle.std.proofs.Common.{◌≡◌, drop}
use Rattle.fumen_digits.specs.Framing.{digits_in}
use Rattle.fumen_digits.proofs.framing.digits_of.Given as goal

abbrev pub invariant-loop-place : goal.invariant-loop-place
invariant-loop-place l = digits_in (drop l.place l.text) ≡ digits_in l.text
