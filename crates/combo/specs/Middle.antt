-- Gaps in the four columns in the middle, between walls in the outermost columns.
use Rattle.std.specs.Prelude.{ℕ, zero, suc, ◌+◌, Bool, false, not, ◌&&◌, ◌||◌, nat_le}
use Rattle.lane_board.specs.Field.{Field}

-- columns 3 to 6
abbrev pub is_middle : ℕ → Bool
is_middle x = nat_le 3 x && nat_le x 6

-- three cells of a row are filled, from this column on
abbrev pub has_three : Field → ℕ → ℕ → Bool
has_three F x y = (F x y && F (x + 1) y) && F (x + 2) y

-- a row has its empty cells in the middle, and at least one
abbrev pub has_gaps : Field → ℕ → Bool
has_gaps F y = (has_three F 0 y && has_three F 7 y) && not (has_three F 3 y && F 6 y)

-- a column has an empty cell below a height
unfoldable pub has_empty : Field → ℕ → ℕ → Bool
has_empty F x zero = false
has_empty F x (suc n) = has_empty F x n || not (F x n)

-- a column in the middle that has one
abbrev pub is_gap : Field → ℕ → ℕ → Bool
is_gap F height x = is_middle x && has_empty F x height
