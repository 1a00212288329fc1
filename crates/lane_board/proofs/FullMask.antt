-- The number whose bits tell which rows are full.
use Rattle.std.proofs.Common.{◌≡◌, ℕ, zero, suc, ◌+◌, ◌*◌, ◌/◌, ◌%◌, ◌^◌, ◌<◌, ◌≤◌, cond, ◌||◌, ◌==◌, bit_or, count_ones, List, length, get_or, ap, ◌∙◌, arith, rules}
use Rattle.std.specs.Int.Count.{ones}
use Rattle.std.proofs.Math.Path.{fun_ext}
use Rattle.std.proofs.lemmas.Bool.{cases_lt}
use Rattle.std.proofs.lemmas.List.{get_or_past}
use Rattle.std.proofs.lemmas.Nat.{shl_whole, shl_below, shr_split, shr_below, ones_cat, or_lt, mod_below, pow_pos, pow_below}
use Rattle.lane_board.specs.Field.{Field}
use Rattle.lane_board.specs.FullRows.{is_full, full_below}
use Rattle.lane_board.specs.Lanes.{has_bit, cells_of_bits}
use Rattle.lane_board.proofs.CellTests.{or_none}
use Rattle.lane_board.proofs.RowBits.{has_bit-or, has_bit-shifted_low, has_bit-shifted_high, has_bit-past, has_bit-low}
use Rattle.lane_board.proofs.RowTables.{is_full_row}

-- eight bits more, above those so far
pub eight_more : (full m at : ℕ) (rows : List ℕ) (next : ℕ) → next ≡ at + 8 → full < 2 ^ at → ((y : ℕ) → y < at → has_bit full y ≡ (get_or rows y 0 == 1023)) →
    m < 256 → ((k : ℕ) → k < 8 → has_bit m k ≡ (get_or rows (at + k) 0 == 1023)) → at + 8 ≤ 32 →
    (bit_or full (m * 2 ^ at % 2 ^ 32) < 2 ^ next) × ((y : ℕ) → y < next → has_bit (bit_or full (m * 2 ^ at % 2 ^ 32)) y ≡ (get_or rows y 0 == 1023))
eight_more full m at rows next next_is so_far told small told_new room = (bound, bit)
  where
    whole : m * 2 ^ at % 2 ^ 32 ≡ m * 2 ^ at
    whole = shl_whole m 8 at 32 small (omega arith)

    bound : bit_or full (m * 2 ^ at % 2 ^ 32) < 2 ^ next
    bound = or_lt next full _ (omega (arith, pow_below at next (omega arith))) (omega (arith, whole, shl_below m 8 at small, ap (λ e. 2 ^ e) {x = 8 + at} {y = next} (omega arith)))

    parts : (y : ℕ) → has_bit (bit_or full (m * 2 ^ at % 2 ^ 32)) y ≡ (has_bit full y || has_bit (m * 2 ^ at) y)
    parts y = ap (λ n. has_bit (bit_or full n) y) whole ∙ has_bit-or full (m * 2 ^ at) y

    bit : (y : ℕ) → y < next → has_bit (bit_or full (m * 2 ^ at % 2 ^ 32)) y ≡ (get_or rows y 0 == 1023)
    bit y below = search (rules, cases_lt, or_none, has_bit-shifted_low, has_bit-past, has_bit-shifted_high, parts)

pub one_bit : (q : ℕ) → q < 2 → ones q ≡ cond (q % 2 == 1) 1 0
unfolding ones
one_bit q small = search rules

-- where each bit of a number tells whether its row is full, it has as many ones as rows are full
pub ones_full : (F : Field) (n mask : ℕ) → mask < 2 ^ n → ((y : ℕ) → y < n → has_bit mask y ≡ is_full F y) → count_ones mask ≡ full_below F n
unfolding full_below has_bit
ones_full F zero mask small told = ap count_ones {y = 0} (omega arith) ∙ one_bit 0 (omega arith)
ones_full F (suc n) mask small told =
    let q = mask / 2 ^ n in
    let r = mask % 2 ^ n in
    let few : q < 2 = shr_below mask 1 n (omega (arith, ap (λ e. 2 ^ e) {x = 1 + n} {y = suc n} (omega arith))) in
    let low : r < 2 ^ n = mod_below mask (2 ^ n) (pow_pos n) in
    omega (
      arith,
      ap ones (shr_split mask n),
      ones_cat n q r low,
      one_bit q few,
      ap (λ b. cond b 1 zero) (told n (omega arith)),
      ones_full F n r low (λ y below. has_bit-low mask n y below ∙ told y (omega arith)),
    )

-- once all rows are seen, the bits tell which rows are full, and how many
pub mask_tells : (rows : List ℕ) (n seen mask : ℕ) → seen ≡ n → length rows ≡ n → ((y : ℕ) → get_or rows y 0 < 1024) → mask < 2 ^ seen →
    ((y : ℕ) → y < seen → has_bit mask y ≡ (get_or rows y 0 == 1023)) →
    (has_bit mask ≡ is_full (cells_of_bits rows)) × (count_ones mask ≡ full_below (cells_of_bits rows) n)
mask_tells rows n seen mask all size small below told =
    search (rules, fun_ext, ones_full, cases_lt, is_full_row, has_bit-past, get_or_past)
