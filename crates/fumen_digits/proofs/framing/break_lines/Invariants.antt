-- The text so far and the lines of what is left are the whole text.
use Rattle.std.proofs.Common.{◌≡◌, ◌++◌, drop}
use Rattle.fumen_digits.specs.Framing.{broken}
use Rattle.fumen_digits.proofs.Framings.{lines_from}
use Rattle.fumen_digits.proofs.framing.break_lines.Given as goal

abbrev pub invariant-loop-place : goal.invariant-loop-place
invariant-loop-place l =
    l.text.items ++ lines_from l.place (drop l.place l.digits) ≡ broken l.fn.dialect l.digits
