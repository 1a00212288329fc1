-- One test of a quarter turn on boards of lanes.
use Rattle.std.specs.Prelude.{ℕ, pos, neg_ℤ, ◌-◌, ℤ}
use Rattle.lane_board.specs.Field.{Field, difference, union, moved_within, rows_below}
use Rattle.srs.specs.Cells.{Cell}

-- a number where it is not negative, and else 0
abbrev pub not_below_zero : ℤ → ℕ
not_below_zero (pos n) = n
not_below_zero _ = 0

-- the lane states from which the move leads to a free one, or above the lanes in a column that fits
unfoldable pub opening : ℕ → Field → Field → Cell → Field
opening N free inside move =
    union (moved_within free N (neg_ℤ move.0) (neg_ℤ move.1))
    (difference (moved_within inside N (neg_ℤ move.0) (pos 0)) (rows_below (N - not_below_zero move.1)))
