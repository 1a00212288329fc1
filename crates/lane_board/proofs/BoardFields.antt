-- What callers know of the field of any board, and of full rows.
use Rattle.std.proofs.Common.{◌≡◌, ℕ, ◌<◌, true, false, arith}
use Rattle.std.specs.Int.{bit_at}
use Rattle.std.proofs.lemmas.Bool.{eq-eqb, ne_eqb}
use Rattle.lane_board.specs.Board.{field_of}
use Rattle.lane_board.specs.Lanes.{has_bit}
use Rattle.lane_board.specs.declared.board.LaneBoard.{LaneBoard}
use Rattle.lane_board.proofs.BoardRows.{cell_within}

-- a board has its cells in columns 0 to 9 and rows 0 to N - 1
pub field_of-within : {N : ℕ} (b : LaneBoard N) (x y : ℕ) → field_of b x y ≡ true → (x < 10) × (y < N)
unfolding field_of
field_of-within {N} b x y filled = cell_within N b.rows x y b.size b.in_columns filled

pub true_from_bit : (n k : ℕ) → bit_at n k ≡ 1 → has_bit n k ≡ true
unfolding has_bit
true_from_bit n k one = eq-eqb _ _ one

pub false_from_bit : (n k : ℕ) → bit_at n k ≡ 0 → has_bit n k ≡ false
unfolding has_bit
false_from_bit n k none = ne_eqb _ _ (λ e. omega (arith, e, none))
