-- Fields with no full row.
use Rattle.std.specs.Prelude.{◌≡◌, ℕ, ◌<◌, false}
use Rattle.lane_board.specs.Field.{Field}
use Rattle.lane_board.specs.FullRows.{is_full}

-- no row below the height is full
pub record HasOpenRows (F : Field) (height : ℕ) : Type 0 where
  pub each : (y : ℕ) → y < height → is_full F y ≡ false
