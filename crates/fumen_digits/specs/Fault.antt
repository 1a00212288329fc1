-- The fault of a number, as one of a fumen text. A place is an index among the digits.
use Rattle.std.specs.Prelude.{◌≡◌, ℕ, List}
use Rattle.fumen_digits.specs.declared.fault.FumenFault.{FumenFault}
use Rattle.fumen_digits.specs.declared.fault.FumenFault.TheVariants.{BadDigit, Truncated}
use Rattle.fumen_digits.specs.declared.number.DigitFault.{DigitFault}
use Rattle.fumen_digits.specs.declared.number.DigitFault.TheVariants as fault
use Rattle.fumen_digits.specs.Number.{IsBadDigit, IsTruncated}

-- the fault that the number of this count of digits at a place meets first
abbrev pub IsNumberFault : List ℕ → ℕ → ℕ → FumenFault → Type 0
IsNumberFault ds place count (BadDigit bad) = IsBadDigit ds place count bad
IsNumberFault ds place count (Truncated begin) = (begin ≡ place) × IsTruncated ds place count
IsNumberFault ds place count other = ⊥

-- a fault of one number among those of a text
abbrev pub digit_fault : DigitFault → FumenFault
digit_fault (fault.Bad place) = BadDigit place
digit_fault (fault.Truncated place) = Truncated place
