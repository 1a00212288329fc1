-- Numbers of a fixed count of digits, and where they stand among the digits of a text.
use Rattle.std.specs.Prelude.{◌≡◌, ℕ, zero, suc, ◌+◌, ◌/◌, ◌%◌, ◌^◌, ◌<◌, ◌≤◌, List, [], ◌∷◌, ◌++◌, length, drop, slice_index}
use Rattle.fumen_digits.specs.Digit.{digit, IsDigit, AreDigits}

-- the digits of a number, the least first
unfoldable pub digits : ℕ → ℕ → List ℕ
digits zero n = []
digits (suc count) n = digit (n % 64) ∷ digits count (n / 64)

-- text stands in ds from place k up to place j
pub record Stands (ds : List ℕ) (k : ℕ) (text : List ℕ) (j : ℕ) : Type 0 where
  pub here : drop k ds ≡ text ++ drop j ds
  pub upto : j ≡ k + length text
  pub within : j ≤ length ds

-- the number n stands at a place, with this count of digits
pub record NumberStands (ds : List ℕ) (place count n : ℕ) : Type 0 where
  pub below : n < 64 ^ count
  pub stands : Stands ds place (digits count n) (place + count)

-- digits stand from the place up to another one, where a byte stands that is none, within the count
pub record IsBadDigit (ds : List ℕ) (place count bad : ℕ) : Type 0 where
  pub front : List ℕ
  pub digits_stand : Stands ds place front bad
  pub each : AreDigits front
  pub early : bad < place + count
  pub there : bad < length ds
  pub none : IsDigit (slice_index ds bad) → ⊥

-- only digits stand from the place on, and fewer than the count
pub record IsTruncated (ds : List ℕ) (place count : ℕ) : Type 0 where
  pub front : List ℕ
  pub digits_stand : Stands ds place front (length ds)
  pub each : AreDigits front
  pub short : length ds < place + count
