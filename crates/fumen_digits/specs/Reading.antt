-- Reading the digits of a text from a place on, with the first fault that is met.
use Rattle.std.specs.Prelude.{ℕ, zero, suc, ◌+◌, ◌*◌, List, length, slice_index, nat_lt, if◌then◌else◌, Result, Ok, Err}
use Rattle.std.specs.Option.{ok_or}
use Rattle.fumen_digits.specs.Digit.{digit_value}
use Rattle.fumen_digits.specs.declared.fault.FumenFault.{FumenFault}
use Rattle.fumen_digits.specs.declared.fault.FumenFault.TheVariants.{BadDigit, Truncated}

-- a step, and what follows it unless it fails
infixl 10 ◌>>=◌
abbrev pub ◌>>=◌ : {A B E : Type 0} → Result A E → (A → Result B E) → Result B E
(Ok x) >>= f = f x
(Err e) >>= f = Err e

-- the value of the digit at a place, in a number that begins at start
unfoldable pub value_at : List ℕ → ℕ → ℕ → Result ℕ FumenFault
value_at ds start place =
    if nat_lt place (length ds) then ok_or (digit_value (slice_index ds place)) (BadDigit place)
    else Err (Truncated start)

-- the number of the next digits, this many, in a number that begins at start
unfoldable pub number_from : List ℕ → ℕ → ℕ → ℕ → Result ℕ FumenFault
number_from ds start place zero = Ok 0
number_from ds start place (suc count) = do
  value ← value_at ds start place
  high ← number_from ds start (place + 1) count
  Ok (value + 64 * high)

-- the number of this count of digits at a place
abbrev pub number_at : List ℕ → ℕ → ℕ → Result ℕ FumenFault
number_at ds place count = number_from ds place place count
