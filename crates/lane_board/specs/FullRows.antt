-- Full rows of a field, and the field after they are removed.
use Rattle.std.specs.Prelude.{ℕ, zero, suc, ◌+◌, ◌-◌, Bool, false, not, ◌&&◌, ◌||◌, ◌==◌, if◌then◌else◌, List, [], ◌∷◌}
use Rattle.std.specs.List.{list_all}
use Rattle.lane_board.specs.Field.{Field}

-- the columns of a field
abbrev pub columns : List ℕ
columns = 0 ∷ 1 ∷ 2 ∷ 3 ∷ 4 ∷ 5 ∷ 6 ∷ 7 ∷ 8 ∷ 9 ∷ []

-- a row is full where it has its ten cells
unfoldable pub is_full : Field → ℕ → Bool
is_full F y = list_all (λ x. F x y) columns

-- how many of rows 0 to n - 1 are full
unfoldable pub full_below : Field → ℕ → ℕ
full_below F zero = 0
full_below F (suc n) = full_below F n + (if is_full F n then 1 else 0)

-- rows 0 to height - 1 of F without the full ones: for each cell (x, n) whose row is not full, the cell (x, n - k),
-- where k is the number of full rows below row n
unfoldable pub without_full_rows : Field → ℕ → Field
without_full_rows F zero x y = false
without_full_rows F (suc n) x y = without_full_rows F n x y || ((F x n && not (is_full F n)) && n - full_below F n == y)
