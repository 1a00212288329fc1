-- The 64 digits of fumen.
use Rattle.std.specs.Prelude.{◌≡◌, ℕ, ◌<◌, List, Option, ◌==◌, position, slice_index, codes}
use Rattle.std.specs.List.{AllByRecursion}

-- the digits of the values 0 to 63, in this order
abbrev pub alphabet : List ℕ
alphabet = codes "ABCDEFGHIJKLMNOPQRSTUVWXYZabcdefghijklmnopqrstuvwxyz0123456789+/"

-- the digit of a value
unfoldable pub digit : ℕ → ℕ
digit value = slice_index alphabet value

-- the value of a digit, and nothing for another byte
unfoldable pub digit_value : ℕ → Option ℕ
digit_value byte = position (λ d. d == byte) alphabet

-- one of the 64
abbrev pub IsDigit : ℕ → Type 0
IsDigit byte = (value : ℕ) × (value < 64) × (byte ≡ digit value)

abbrev pub AreDigits : List ℕ → Type 0
AreDigits bytes = AllByRecursion IsDigit bytes
