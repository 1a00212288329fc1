-- Flags as the bits of bytes, from the lowest bit of each byte up.
use Rattle.std.specs.Prelude.{◌≡◌, ℕ, ◌+◌, ◌/◌, ◌%◌, Bool, false, ◌==◌, List, length, slice_index_or}
use Rattle.std.specs.Int.{bit_at}

-- whether a bit is 1: bit number mod 8 of byte number / 8; none is 1 behind the last byte
unfoldable pub is_one : List ℕ → ℕ → Bool
is_one bytes number = bit_at (slice_index_or bytes (number / 8) 0) (number % 8) == 1

-- how many bytes so many bits take
abbrev pub bytes_for : ℕ → ℕ
bytes_for count = (count + 7) / 8

-- A bit for each flag, in their order, in as many bytes as they take. The bits behind the last flag are 0.
pub record AreBitsOf (flags : List Bool) (bytes : List ℕ) : Type 0 where
  pub size : length bytes ≡ bytes_for (length flags)
  pub each : (number : ℕ) → is_one bytes number ≡ slice_index_or flags number false
