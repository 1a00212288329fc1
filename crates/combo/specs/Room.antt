-- Room between walls for the cells of a run.
use Rattle.std.specs.Prelude.{◌≡◌, ℕ, ◌+◌, ◌≤◌, ◌<◌, ◌⊎◌, Bool, true, false, not, ◌&&◌, count_by}
use Rattle.lane_board.specs.Field.{Field}
use Rattle.lane_board.specs.FullRows.{columns, is_full}

-- The rows below a height have empty cells in gaps alone, and none of them is full. Two columns are empty at and above
-- the height. They are too far apart for one piece, and too far from each gap for a piece with a cell there in another
-- row.
pub record HasWalls (F : Field) (is_gap : ℕ → Bool) (height left right : ℕ) : Type 0 where
  pub low : height ≤ 22
  pub gaps : (x y : ℕ) → x < 10 → y < height → F x y ≡ false → is_gap x ≡ true
  pub none_full : (y : ℕ) → y < height → is_full F y ≡ false
  pub apart : left + 4 ≤ right
  pub inside : right ≤ 9
  pub far_left : (x : ℕ) → is_gap x ≡ true → (x + 3 ≤ left) ⊎ (left + 3 ≤ x)
  pub far_right : (x : ℕ) → is_gap x ≡ true → (x + 3 ≤ right) ⊎ (right + 3 ≤ x)
  pub empty_left : (y : ℕ) → height ≤ y → F left y ≡ false
  pub empty_right : (y : ℕ) → height ≤ y → F right y ≡ false

-- how many gaps are open in the row at the height
abbrev pub open_gaps : Field → (ℕ → Bool) → ℕ → ℕ
open_gaps F is_gap height = count_by (λ x. is_gap x && not (F x height)) columns
