-- Rows of ten bits in one number.
use Rattle.std.proofs.Common.{◌≡◌, ℕ, zero, suc, ◌+◌, ◌-◌, ◌*◌, ◌/◌, ◌%◌, ◌^◌, ◌<◌, ◌≤◌, true, false, ◌&&◌, ◌==◌, nat_lt, sym, ap, subst, ◌∙◌, inl, inr, arith, rules}
use Rattle.std.proofs.Math.Path.{fun_ext}
use Rattle.std.specs.Int.{bit_at}
use Rattle.std.proofs.lemmas.Bool.{cases_lt, and_left, and_right, false_from_ne_true, lt-ltb, ltb-true}
use Rattle.std.proofs.lemmas.Nat.Bits.{bit_at_cat_low, bit_at_cat_high}
use Rattle.std.proofs.Math.Nat.{pow-le-pow_right}
use Rattle.std.proofs.Math.Bool.{and-true}
use Rattle.lane_board.specs.Field.{Field, intersection, rows_below}
use Rattle.lane_board.specs.Lanes.{has_bit}
use Rattle.lane_board.proofs.CallerLemmas.{has_bit-zero, has_bit-low, has_bit-past, same_from_columns}
use Rattle.well.specs.CellBits.{cells_in_bits}

-- a number with no bit from bit 10 on is a row
row_small : (row : ℕ) → ((k : ℕ) → 10 ≤ k → has_bit row k ≡ false) → row < 1024
row_small row none = let same : row ≡ row % 1024 = same_from_columns row (row % 1024) bits in omega arith
  where
    bits : (k : ℕ) → has_bit row k ≡ has_bit (row % 2 ^ 10) k
    bits k = elim (cases_lt k 10) [
      | inl below ↦ sym (has_bit-low row 10 k below)
      | inr above ↦ none k above ∙ sym (has_bit-past (row % 2 ^ 10) 10 k (omega arith) above)
    ]

-- the cells of rows y to rows - 1 of a field, ten bits for each row, the lowest row in the lowest bits
pub record IsPacked (F : Field) (rows y cells : ℕ) : Type 0 where
  pub bits : (x j : ℕ) → x < 10 → has_bit cells (10 * j + x) ≡ (F x (y + j) && nat_lt (y + j) rows)
  pub small : cells < 1024 ^ (rows - y)

pub packed_none : (F : Field) (rows : ℕ) → IsPacked F rows rows 0
packed_none F rows = search (rules, has_bit-zero, and_right, false_from_ne_true, ltb-true)

low_bit : (m r k : ℕ) → k < 10 → has_bit (m * 1024 + r) k ≡ has_bit r k
unfolding has_bit
low_bit m r k below = ap (λ b. b == 1) (bit_at_cat_low m 10 r k below)

high_bit : (m r k : ℕ) → r < 1024 → has_bit (m * 1024 + r) (k + 10) ≡ has_bit m k
unfolding has_bit
high_bit m r k small = let at : k + 10 - 10 ≡ k = omega arith in ap (λ b. b == 1) (bit_at_cat_high m 10 r (k + 10) small (omega arith) ∙ ap (bit_at m) at)

module _ (F : Field) (rows y t cells row next : ℕ) (step : y ≡ t + 1) (within : y ≤ rows) (here : has_bit row ≡ (λ x. F x t)) (columns : (x y : ℕ) → F x y ≡ true → x < 10) (is : next ≡ cells * 1024 + row) (packed : IsPacked F rows y cells) where
  pub small_row : row < 1024
  small_row = row_small row (λ k above. ap (λ f. f k) here ∙ false_from_ne_true _ (λ filled. omega (arith, columns k t filled)))

  pub packed_more : IsPacked F rows t next
  packed_more = record { bits = bits; small = small }
    where
      bits : (x j : ℕ) → x < 10 → has_bit next (10 * j + x) ≡ (F x (t + j) && nat_lt (t + j) rows)
      bits x zero column = search (rules, low_bit, and-true, lt-ltb)
      bits x (suc j) column =
          let place : 10 * suc j + x ≡ 10 * j + x + 10 = omega arith in
          let row_is : y + j ≡ t + suc j = omega arith in
          ap (λ n. has_bit n (10 * suc j + x)) is ∙ ap (has_bit (cells * 1024 + row)) place ∙ high_bit cells row (10 * j + x) small_row ∙ packed.bits x j column ∙ ap (λ k. F x k && nat_lt k rows) row_is

      small : next < 1024 ^ (rows - t)
      small =
          let more : rows - t ≡ suc (rows - y) = omega arith in
          subst (λ n. next < 1024 ^ n) (sym more) (omega (arith, packed.small, small_row, is))

-- what eight rows take fits
pub packed_fits : (F : Field) (rows y cells : ℕ) → rows ≤ 8 → 1 ≤ y → IsPacked F rows y cells → cells < 1024 ^ 7
packed_fits F rows y cells low some packed =
    let most : 1024 ^ (rows - y) ≤ 1024 ^ 7 = pow-le-pow_right {n = 1024} (omega arith) {i = rows - y} {j = 7} (omega arith) in
    omega (arith, packed.small)

pub packed_all : (F : Field) (rows cells : ℕ) → ((x y : ℕ) → F x y ≡ true → x < 10) → IsPacked F rows 0 cells → cells_in_bits cells ≡ intersection F (rows_below rows)
unfolding cells_in_bits intersection rows_below
packed_all F rows cells columns packed =
    search (rules, fun_ext, cases_lt, lt-ltb, false_from_ne_true, ltb-true, and_left)

-- numbers with the same cells are the same
pub same_from_cells : (a b : ℕ) → cells_in_bits a ≡ cells_in_bits b → a ≡ b
unfolding cells_in_bits
same_from_cells a b same = same_from_columns a b (λ k.
    let place : 10 * (k / 10) + k % 10 ≡ k = omega arith in
    let inside = lt-ltb (k % 10) 10 (omega arith) in
    ap (has_bit a) (sym place) ∙ sym (ap (λ b. b && has_bit a (10 * (k / 10) + k % 10)) inside) ∙ ap (λ f. f (k % 10) (k / 10)) same
    ∙ ap (λ c. c && has_bit b (10 * (k / 10) + k % 10)) inside ∙ ap (has_bit b) place)
