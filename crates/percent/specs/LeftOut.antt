-- Tails that are left out because they fail a test.
use Rattle.std.specs.Prelude.{◌≡◌, ℕ, Bool, true, ◌&&◌}

-- some of these tails are there, all that pass a test among them
pub record LeavesOutBad (test tails fit : ℕ → Bool) : Type 0 where
  pub fewer : (tail : ℕ) → fit tail ≡ true → tails tail ≡ true
  pub same : (tail : ℕ) → (fit tail && test tail) ≡ (tails tail && test tail)
