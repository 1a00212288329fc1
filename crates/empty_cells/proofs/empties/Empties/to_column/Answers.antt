-- The bits further down, up to the last column.
use Rattle.std.proofs.Common.{◌≡◌, ℕ, ◌+◌, ◌-◌, ◌*◌, ◌%◌, ◌^◌, ◌<◌, Bool, ◌&&◌, nat_le, bit_and, arith, rules}
use Rattle.std.proofs.lemmas.Bool.{and_left, and_right, cases_lt, false_from_ne_true, le-leb, le-ltb, leb-true}
use Rattle.std.proofs.lemmas.Nat.{and_mask}
use Rattle.std.proofs.Math.Bool.{and-false}
use Rattle.lane_board.specs.Lanes.{has_bit}
use Rattle.lane_board.proofs.CallerLemmas.{has_bit-low, has_bit-past, has_bit-shifted_high, has_bit-shifted_low}
use Rattle.empty_cells.specs.Empties.{cells_by_column, empty_cells}
use Rattle.empty_cells.specs.ShiftedCells.{to_column}
use Rattle.empty_cells.proofs.empties.Empties.to_column.Goals as goal

masked : (n : ℕ) → bit_and n 0xffff_ffff_ffff_ffff_ffff ≡ n % 2 ^ 80
masked n = and_mask n 80

small : (n : ℕ) → bit_and n 0xffff_ffff_ffff_ffff_ffff < 2 ^ 80
small n = omega (arith, masked n)

pub invariant_of-result : goal.invariant_of-result
invariant_of-result c = record { in_columns = small (c.args.self.now.cells * 2 ^ (8 * c.args.x) % 2 ^ 128) }

bits : (n x a b : ℕ) → b < 8 → has_bit (bit_and (n * 2 ^ (8 * x) % 2 ^ 128) 0xffff_ffff_ffff_ffff_ffff) (8 * a + b) ≡ (nat_le a 9 && (nat_le x a && has_bit n (8 * (a - x) + b)))
bits n x a b low =
    search (rules, (masked (n * 2 ^ (8 * x) % 2 ^ 128)), (cases_lt 9 a), (has_bit-past ((n * 2 ^ (8 * x) % 2 ^ 128) % 2 ^ 80) 80 (8 * a + b)), and_left, false_from_ne_true, (leb-true a 9), (has_bit-low (n * 2 ^ (8 * x) % 2 ^ 128) 80 (8 * a + b)), (has_bit-low (n * 2 ^ (8 * x)) 128 (8 * a + b)), (cases_lt a x), (has_bit-shifted_low n (8 * x) (8 * a + b)), and_right, (leb-true x a), has_bit-shifted_high, le-leb)

swapped : (p q r s : Bool) → (p && (q && (r && s))) ≡ (q && (r && (p && s)))
swapped p q r s = search (rules, and-false)

pub returns : goal.returns
unfolding empty_cells cells_by_column to_column
returns c = search (rules, cases_lt, bits, swapped, and_left, le-ltb, and_right)
