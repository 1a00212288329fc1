-- One bit is cleared.
use Rattle.std.proofs.Common.{◌≡◌, ℕ, ◌<◌, not, ◌&&◌, ◌==◌, bit_and, w8, ◌*◌, ◌^◌, ◌%◌, rules}
use Rattle.std.specs.Int.{bit_not}
use Rattle.std.proofs.lemmas.Bool.{both_ways, cases_eq, eq-eqb, ne_eqb}
use Rattle.std.proofs.lemmas.Nat.{and_le_l}
use Rattle.std.proofs.lemmas.Nat.Bits.{bit_at_clear_other, bit_at_clear_same}
use Rattle.std.proofs.Math.Bool.{and-false, and-true}
use Rattle.lane_board.specs.Lanes.{has_bit}
use Rattle.empty_cells.proofs.rows.without_row.Goals as goal

left : (rows row y : ℕ) → row < 8 → y < 8 → has_bit (bit_and rows (bit_not w8 (1 * 2 ^ row % 2 ^ 8))) y ≡ (has_bit rows y && not (y == row))
unfolding has_bit
left rows row y within low =
    search (rules, (cases_eq y row), (bit_and rows (bit_not w8 (1 * 2 ^ row % 2 ^ 8))), (bit_at_clear_same w8 rows row within), (and-false (has_bit rows y)), (eq-eqb y row), (bit_at_clear_other w8 rows row within y low), (and-true (has_bit rows y)), (ne_eqb y row))

pub returns-clause-others : goal.returns-clause-others
returns-clause-others c = λ y low. left c.args.rows c.args.row y c.requires low

pub returns-clause-fewer : goal.returns-clause-fewer
unfolding has_bit
returns-clause-fewer c =
    search (rules, (cases_eq (bit_and c.args.rows (bit_not w8 (1 * 2 ^ c.args.row % 2 ^ 8))) c.args.rows), both_ways, (bit_at_clear_same w8 c.args.rows c.args.row c.requires), (and_le_l c.args.rows (bit_not w8 (1 * 2 ^ c.args.row % 2 ^ 8))))
