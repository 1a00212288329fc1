-- Positions whose rows stand in rows of an earlier field.
use Rattle.std.specs.Prelude.{◌≡◌, ℕ, zero, suc, ◌+◌, ◌-◌, ◌<◌, ◌≤◌, Bool, true, false, not, ◌||◌, ◌==◌, List, slice_index}
use Rattle.lane_board.specs.Field.{Field}
use Rattle.lane_board.specs.FullRows.{is_full, full_below}

-- whether one of the first rows stands in row z
unfoldable pub is_row_of : ℕ → List ℕ → ℕ → Bool
is_row_of zero rows z = false
is_row_of (suc height) rows z = is_row_of height rows z || slice_index rows height == z

-- the empty cells of a field below a height, with each row where it stands, are the cells of a set
pub record IsSpread (F : Field) (height : ℕ) (rows : List ℕ) (E : Field) : Type 0 where
  pub rises : (y z : ℕ) → y < z → z < height → slice_index rows y < slice_index rows z
  pub within : (y : ℕ) → y < 8 → slice_index rows y < 8
  pub same : (x y : ℕ) → x ≤ 9 → y < height → E x (slice_index rows y) ≡ not (F x y)
  pub only : (x z : ℕ) → E x z ≡ true → is_row_of height rows z ≡ true

-- the row that comes to row k where the full rows are removed
pub record ComesFrom (G : Field) (height k : ℕ) : Type 0 where
  pub row : ℕ
  pub below : row < height
  pub stays : is_full G row ≡ false
  pub lowered : k + full_below G row ≡ row

-- the rows of those that aren't full, in their order
pub record KeepsRows (G : Field) (height : ℕ) (rows kept : List ℕ) : Type 0 where
  pub each : (row : ℕ) → row < height → is_full G row ≡ false
      → slice_index kept (row - full_below G row) ≡ slice_index rows row
  pub from : (k : ℕ) → k + full_below G height < height → ComesFrom G height k
