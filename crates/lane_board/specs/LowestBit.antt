-- The lowest bit of a word.
use Rattle.std.specs.Prelude.{◌≡◌, ℕ, ◌≤◌, true}
use Rattle.lane_board.specs.Lanes.{has_bit}

-- the word has the bit, and none below it
pub record IsLowestBit (word bit : ℕ) : Type 0 where
  pub has : has_bit word bit ≡ true
  pub first : (k : ℕ) → has_bit word k ≡ true → bit ≤ k
