-- A column has as many cells as its byte has ones; and a wall stands behind it where no row has a cell there and in the next one.
use Rattle.std.proofs.Common.{◌≡◌, ℕ, zero, suc, ◌+◌, ◌*◌, ◌++◌, ◌∷◌, [], ◌/◌, ◌%◌, ◌^◌, ◌<◌, true, not, cond, ◌&&◌, ◌==◌, count_ones, w8, ◌↔◌, ap, ◌∙◌, arith, rules}
use Rattle.std.specs.Int.Count.{ones}
use Rattle.std.specs.Prelude.{sum_by}
use Rattle.std.specs.List.{range_with_len}
use Rattle.std.proofs.lemmas.Nat.{mod_below, ones_cat, pow_pos, shr_below, shr_split}
use Rattle.lane_board.specs.Field.{Field}
use Rattle.lane_board.specs.Lanes.{has_bit}
use Rattle.std.proofs.lemmas.Bool.{and_parts, both_ways, cases_eq, eq-eqb, eqb-true, not-false}
use Rattle.std.proofs.lemmas.Nat.Bits.{bit_at-trailing_zeros}
use Rattle.std.proofs.lemmas.List.Sums.{sum_by_push}
use Rattle.lane_board.proofs.CallerLemmas.{has_bit-low, has_bit-shifted_right, has_bit-zero, one_bit}
use Rattle.prune.specs.Counts.{column_empties}
use Rattle.prune.specs.Walls.{IsWall}
use Rattle.prune.proofs.CallerLemmas.{column_empties-suc, column_empties-zero, range_more}
use Rattle.empty_cells.specs.declared.span.Span.TheVariants.{FirstTwo}
use Rattle.empty_cells.specs.Empties.{all_but}
use Rattle.empty_cells.specs.Spans.{has_span}
use Rattle.empty_cells.proofs.StackLemmas.{IsSmall}

pub ones_column : (F : Field) (x n mask : ℕ) → mask < 2 ^ n → ((y : ℕ) → y < n → has_bit mask y ≡ not (F x y)) → count_ones mask ≡ column_empties F n x
unfolding has_bit
ones_column F x zero mask small told = ap count_ones {y = 0} (omega arith) ∙ one_bit 0 (omega arith) ∙ omega (arith, column_empties-zero F x)
ones_column F x (suc n) mask small told =
    let q = mask / 2 ^ n in
    let r = mask % 2 ^ n in
    let few : q < 2 = shr_below mask 1 n (omega (arith, ap (λ e. 2 ^ e) {x = 1 + n} {y = suc n} (omega arith))) in
    let low : r < 2 ^ n = mod_below mask (2 ^ n) (pow_pos n) in
    omega (
      arith,
      ap ones (shr_split mask n),
      ones_cat n q r low,
      one_bit q few,
      ap (λ b. cond b 1 zero) (told n (omega arith)),
      ones_column F x n r low (λ y below. has_bit-low mask n y below ∙ told y (omega arith)),
      column_empties-suc F n x,
    )

-- several columns have as many as theirs together

pub ones_columns : (F : Field) (n cells : ℕ) → cells < 2 ^ (8 * n) → ((a b : ℕ) → a < n → b < 8 → has_bit cells (8 * a + b) ≡ not (F a b)) → count_ones cells ≡ sum_by (column_empties F 8) (range_with_len 0 n)
ones_columns F zero cells small told = ap count_ones {y = 0} (omega arith) ∙ one_bit 0 (omega arith)
ones_columns F (suc n) cells small told =
    let q = cells / 2 ^ (8 * n) in
    let r = cells % 2 ^ (8 * n) in
    let whole : 2 ^ (8 + 8 * n) ≡ 2 ^ (8 * suc n) = ap (λ e. 2 ^ e) {x = 8 + 8 * n} {y = 8 * suc n} (omega arith) in
    let few : q < 2 ^ 8 = shr_below cells 8 (8 * n) (omega (arith, small, whole)) in
    let low : r < 2 ^ (8 * n) = mod_below cells (2 ^ (8 * n)) (pow_pos (8 * n)) in
    let last : count_ones q ≡ column_empties F 8 n = ones_column F n 8 q few (λ y below. has_bit-shifted_right cells (8 * n) y ∙ told n y (omega arith) below) in
    let more : range_with_len 0 (suc n) ≡ range_with_len 0 n ++ n ∷ [] = range_more 0 n ∙ ap (λ k. range_with_len 0 n ++ k ∷ []) {x = 0 + n} {y = n} (omega arith) in
    omega (
      arith,
      ap ones (shr_split cells (8 * n)),
      ones_cat (8 * n) q r low,
      last,
      ones_columns F n r low (λ a b near below. has_bit-low cells (8 * n) (8 * a + b) (omega (arith, near, below)) ∙ told a b (omega (arith, near)) below),
      ap (sum_by (column_empties F 8)) more,
      sum_by_push (column_empties F 8) (range_with_len 0 n) n,
    )

-- a row has a cell in a column and in the next one
both_cells : (E : Field) (x y : ℕ) → has_span E x FirstTwo y ≡ true → (E x y ≡ true) × (E (x + 1) y ≡ true)
unfolding has_span
both_cells E x y has = search (rules, and_parts)

has_both : (E : Field) (x y : ℕ) → E x y ≡ true → E (x + 1) y ≡ true → has_span E x FirstTwo y ≡ true
unfolding has_span
has_both E x y left right = ap (λ k. E k y && (E (x + 1) y && true)) {x = x + 0} {y = x} (omega arith) ∙ ap (λ b. b && (E (x + 1) y && true)) left ∙ ap (λ b. b && true) right

-- the rows that have both are none exactly where a wall stands there
pub wall_by_rows : (E : Field) (x rows : ℕ) → IsSmall 8 E → rows < 2 ^ 8 → ((y : ℕ) → y < 8 → has_bit rows y ≡ has_span E x FirstTwo y) → ((rows == 0) ≡ true) ↔ IsWall (all_but E) 8 (x + 1)
unfolding all_but has_bit
wall_by_rows E x rows small low told =
    search (rules, not-false, both_ways, (eqb-true rows 0), has_bit-zero, (has_both E x), (cases_eq rows 0), (eq-eqb rows 0), (bit_at-trailing_zeros w8 rows), (small.column (x + 1)), (both_cells E x))
