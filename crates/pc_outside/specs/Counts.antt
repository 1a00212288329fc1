-- Counts of 64 bits that never fall, what it means that one rose, and that a call failed for a cause.
use Rattle.std.specs.Prelude.{◌≡◌, ℕ, ◌+◌, ◌-◌, ◌^◌, ◌≤◌, min, Bool, true, Result, OnOk, OnErr}

-- the count after one more; it stays at its last value
abbrev pub next_count : ℕ → ℕ
next_count n = min (n + 1) (2 ^ 64 - 1)

-- the count is greater now than before, or stands at its last value
abbrev pub Rose : ℕ → ℕ → Type 0
Rose before now = next_count before ≤ now

-- The count of faults never falls, and a call fails only where it rose. Where failed calls alone are counted, one that
-- does not fail leaves it as it was.
pub record HasCause {T E : Type 0} (alone : Bool) (before now : ℕ) (result : Result T E) : Type 0 where
  pub later : before ≤ now
  pub kept : alone ≡ true → OnOk result (now ≡ before)
  pub failed : OnErr result (Rose before now)
