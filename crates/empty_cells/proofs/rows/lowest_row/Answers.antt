-- The index of the lowest bit.
use Rattle.std.proofs.Common.{w8, ◌==◌, ap, arith}
use Rattle.std.proofs.lemmas.Nat.Bits.{bit_at-trailing_zeros}
use Rattle.lane_board.specs.Lanes.{has_bit}
use Rattle.empty_cells.proofs.rows.lowest_row.Goals as goal

pub returns-clause-below : goal.returns-clause-below
returns-clause-below c = (bit_at-trailing_zeros w8 c.args.rows c.requires (omega arith)).0

pub returns-clause-has : goal.returns-clause-has
unfolding has_bit
returns-clause-has c = ap (λ b. b == 1) (bit_at-trailing_zeros w8 c.args.rows c.requires (omega arith)).1
