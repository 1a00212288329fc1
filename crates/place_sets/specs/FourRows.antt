-- Four rows of a board in a word of 64 bits.
use Rattle.std.specs.Prelude.{◌≡◌, ℕ, ◌+◌, ◌/◌, ◌%◌, ◌<◌}
use Rattle.lane_board.specs.Field.{Field}
use Rattle.lane_board.specs.Lanes.{has_bit}

-- the word has the cells of four rows of the field, sixteen bits for each
pub record IsFourRows (F : Field) (y word : ℕ) : Type 0 where
  pub bits : (k : ℕ) → k < 64 → has_bit word k ≡ F (k % 16) (y + k / 16)
