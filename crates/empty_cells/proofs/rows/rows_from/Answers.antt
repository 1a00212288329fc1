-- A shifted row of ones.
use Rattle.std.proofs.Common.{◌≡◌, ℕ, ◌*◌, ◌^◌, ◌<◌, nat_le, ◌∙◌, arith, rules}
use Rattle.std.proofs.lemmas.Bool.{cases_lt, le-leb, lt-leb}
use Rattle.lane_board.specs.Lanes.{has_bit}
use Rattle.lane_board.proofs.CallerLemmas.{and_true, has_bit-and, has_bit-low, has_bit-shifted_high, has_bit-shifted_low}
use Rattle.empty_cells.proofs.RowLemmas.{ones}
use Rattle.empty_cells.proofs.rows.rows_from.Goals as goal

shifted : (row y : ℕ) → y < 8 → has_bit (255 * 2 ^ row) y ≡ nat_le row y
shifted row y low = search (rules, cases_lt, has_bit-shifted_low, lt-leb, has_bit-shifted_high, ones, le-leb)

pub returns : goal.returns
returns c = λ y low. has_bit-and _ 255 y ∙ and_true _ _ (ones y low) ∙ has_bit-low (255 * 2 ^ c.args.row) 16 y (omega arith) ∙ shifted c.args.row y low
