-- The digits so far and those of what is left are the digits of the number.
use Rattle.std.proofs.Common.{◌≡◌, ◌-◌, ◌++◌, length, take}
use Rattle.fumen_digits.specs.Number.{digits}
use Rattle.fumen_digits.proofs.number.spell.Given as goal

abbrev pub invariant-loop-i : goal.invariant-loop-i
invariant-loop-i l =
    (length l.spelled ≡ 5) × (take l.i l.spelled ++ digits (l.count - l.i) l.rest ≡ digits l.count l.number)
