-- How a set of pivots spreads within one rotation, by moves of one column or row.
use Rattle.std.specs.Prelude.{◌≡◌, ℕ, zero, suc, pos}
use Rattle.lane_board.specs.Field.{Field, intersection, union, moved_within}
use Rattle.srs.specs.Cells.{minus}
use Rattle.place_sets.specs.declared.spreading.Shifts.{Shifts}
use Rattle.place_sets.specs.declared.spreading.Shifts.TheVariants.{Sideways, Down, All}

-- the pivots moved by one column
unfoldable pub sideways : ℕ → Field → Field
sideways N S = union (moved_within S N (minus 1) (pos 0)) (moved_within S N (pos 1) (pos 0))

-- the pivots moved by one row down
unfoldable pub lower : ℕ → Field → Field
lower N S = moved_within S N (pos 0) (minus 1)

-- the pivots moved by one of these moves, on a board of N rows
abbrev pub neighbours : Shifts → ℕ → Field → Field
neighbours Sideways N S = sideways N S
neighbours Down N S = lower N S
neighbours All N S = union (sideways N S) (lower N S)

-- the pivots, and the free ones beside them
unfoldable pub widened : Shifts → ℕ → Field → Field → Field
widened shifts N free S = union S (intersection free (neighbours shifts N S))

-- the same so many times
unfoldable pub widened_by : ℕ → Shifts → ℕ → Field → Field → Field
widened_by zero shifts N free S = S
widened_by (suc rounds) shifts N free S = widened shifts N free (widened_by rounds shifts N free S)

-- the pivots spread until there is no free one beside them
pub record IsSpread (shifts : Shifts) (N : ℕ) (free S result : Field) : Type 0 where
  pub rounds : ℕ
  pub grown : result ≡ widened_by rounds shifts N free S
  pub still : widened shifts N free result ≡ result
