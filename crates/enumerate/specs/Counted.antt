-- A count of floods that stops at u64's greatest value.
use Rattle.std.specs.Prelude.{◌≡◌, ℕ, ◌+◌, ◌-◌, ◌^◌, ◌≤◌, min}

-- a whole number as such a count
abbrev pub as_count : ℕ → ℕ
as_count n = min n (2 ^ 64 - 1)

-- the steps rose, and the count with them
pub record CountsUp (old new before now : ℕ) : Type 0 where
  pub rose : before ≤ now
  pub counts : (n : ℕ) → old ≡ as_count n → new ≡ as_count (n + (now - before))
