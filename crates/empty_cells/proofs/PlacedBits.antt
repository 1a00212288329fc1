-- The bits of a shape, moved with its pivot, are those of the placement's cells.
use Rattle.std.proofs.Common.{◌≡◌, ℕ, ◌+◌, ◌*◌, ◌/◌, ◌%◌, ◌^◌, ◌<◌, ◌≤◌, Bool, true, false, ◌&&◌, ◌==◌, nat_le, ℤ, pos, ◌+ℤ◌, ◌≤ℤ◌, nat_abs, bit_and, bit_or, List, [], ◌∷◌, length, map, refl, arith, rules}
use Rattle.std.specs.List.{list_all, list_any}
use Rattle.std.specs.Ordering.{int_eq}
use Rattle.std.specs.Prelude.{slice_index_or}
use Rattle.std.proofs.lemmas.Bool.{agree_below, agree_below_at, and_from, and_parts, cases_lt, eq-eqb, eqb-true, false_from_ne_true, le-leb, leb-true, ne_eqb}
use Rattle.std.proofs.lemmas.Bool.Decides.{Decides-int_eq}
use Rattle.std.proofs.lemmas.Int.{ints}
use Rattle.std.proofs.Math.Bool.{and-or_distrib_right, or_assoc, or-false}
use Rattle.lane_board.specs.Lanes.{has_bit}
use Rattle.lane_board.proofs.CallerLemmas.{has_bit-and, has_bit-low, has_bit-or, has_bit-past, has_bit-shifted_high, has_bit-shifted_low, has_bit-shifted_right, same_from_both}
use Rattle.srs.specs.declared.piece.Piece.{Piece}
use Rattle.srs.specs.declared.rotation.Rotation.{Rotation}
use Rattle.srs.specs.Cells.{Cell, minus, moved, shape, is_near}
use Rattle.srs.specs.SameCells.{cell_eq, is_among}
use Rattle.srs.proofs.CallerLemmas.{near_within, shape_near}
use Rattle.empty_cells.specs.ShapeBits.{bit_index, has_shape_bit}
use Rattle.empty_cells.proofs.SentLemmas.{one_bit}

-- a number by which a cell lies beside or above the pivot
at_number : (z : ℤ) (x a : ℕ) → minus 2 ≤ℤ z → z ≤ℤ pos 2 → int_eq (pos x +ℤ z) (pos a) ≡ (x + nat_abs (pos 2 +ℤ z) == a + 2)
at_number z x a low high = search (rules, same_from_both, Decides-int_eq, eq-eqb, eqb-true)

few : (z : ℤ) → minus 2 ≤ℤ z → z ≤ℤ pos 2 → nat_abs (pos 2 +ℤ z) ≤ 4
few z low high = omega (arith, ints)

-- the cell by this offset is the cell (a, b)
abbrev is_here : ℕ → ℕ → ℕ → ℕ → Cell → Bool
is_here x y a b c = (x + nat_abs (pos 2 +ℤ c.0) == a + 2) && (y + nat_abs (pos 2 +ℤ c.1) == b + 2)

here : (x y a b : ℕ) (c : Cell) → is_near c ≡ true → cell_eq (moved (pos x, pos y) c) (pos a, pos b) ≡ is_here x y a b c
unfolding moved
here x y a b c near = search (rules, near_within, at_number)

all_here : (x y a b : ℕ) (cells : List Cell) → list_all is_near cells ≡ true → is_among (map (moved (pos x, pos y)) cells) (pos a, pos b) ≡ list_any (is_here x y a b) cells
unfolding is_among
all_here x y a b [] near = refl
all_here x y a b (c ∷ cells) near = search (rules, and_parts, here, (all_here x y a b cells))

none_low : (x y a b : ℕ) (cells : List Cell) → 8 * a + b + 18 < 8 * x + y → list_any (is_here x y a b) cells ≡ false
none_low x y a b [] low = refl
none_low x y a b (c ∷ cells) low = search (rules, false_from_ne_true, and_parts, eqb-true, (none_low x y a b cells low))

-- the rows of a shape that come to rows 0 to 7
pub record Keeps (rows y : ℕ) : Type 0 where
  pub kept : (c r : ℕ) → c ≤ 4 → r ≤ 4 → has_bit rows (8 * c + r) ≡ (nat_le 2 (y + r) && nat_le (y + r) 9)

placed_here : (rows x y a b k q r : ℕ) → q ≤ 4 → r ≤ 4 → Keeps rows y → b ≤ 7 → 8 * x + y + k ≡ 8 * a + b + 18 → ((8 * q + r == k) && has_bit rows k) ≡ ((x + q == a + 2) && (y + r == b + 2))
placed_here rows x y a b k q r few_columns few_rows keeps low at =
    search (rules, same_from_both, and_parts, eqb-true, leb-true, and_from, eq-eqb, le-leb, keeps)

bit_here : (rows x y a b k : ℕ) (c : Cell) → is_near c ≡ true → Keeps rows y → b ≤ 7 → 8 * x + y + k ≡ 8 * a + b + 18 → ((bit_index c == k) && has_bit rows k) ≡ is_here x y a b c
bit_here rows x y a b k c near = search (rules, near_within, placed_here, few)

bits_here : (rows x y a b k : ℕ) (cells : List Cell) → list_all is_near cells ≡ true → Keeps rows y → b ≤ 7 → 8 * x + y + k ≡ 8 * a + b + 18 → (has_shape_bit cells k && has_bit rows k) ≡ list_any (is_here x y a b) cells
bits_here rows x y a b k [] near keeps low at = refl
bits_here rows x y a b k (c ∷ cells) near keeps low at =
    search (rules, and_parts, and-or_distrib_right, bit_here, keeps, (bits_here rows x y a b k cells))

-- the bit of one cell
pub one_cell_bit : (offset : Cell) (bit : ℕ) → is_near offset ≡ true → bit ≡ bit_index offset → (k : ℕ) → has_bit (1 * 2 ^ bit % 2 ^ 64) k ≡ (bit_index offset == k)
one_cell_bit offset bit near is k =
    search (rules, near_within, few, (cases_lt k 64), (one_bit 64 bit k), (has_bit-past (1 * 2 ^ bit % 2 ^ 64) 64 k), (ne_eqb (bit_index offset) k))

-- the bits of four cells
pub four_bits : (cells : List Cell) (origin : Cell) (a b c d k : ℕ) → length cells ≡ 4
    → has_bit a k ≡ (bit_index (slice_index_or cells 0 origin) == k) → has_bit b k ≡ (bit_index (slice_index_or cells 1 origin) == k)
    → has_bit c k ≡ (bit_index (slice_index_or cells 2 origin) == k) → has_bit d k ≡ (bit_index (slice_index_or cells 3 origin) == k)
    → has_bit (bit_or (bit_or (bit_or a b) c) d) k ≡ has_shape_bit cells k
four_bits [] origin a b c d k four is_a is_b is_c is_d = absurd (omega (arith, four))
four_bits (e ∷ []) origin a b c d k four is_a is_b is_c is_d = absurd (omega (arith, four))
four_bits (e ∷ f ∷ []) origin a b c d k four is_a is_b is_c is_d = absurd (omega (arith, four))
four_bits (e ∷ f ∷ g ∷ []) origin a b c d k four is_a is_b is_c is_d = absurd (omega (arith, four))
four_bits (e ∷ f ∷ g ∷ h ∷ []) origin a b c d k four is_a is_b is_c is_d =
    search (rules, has_bit-or, or_assoc, or-false)
four_bits (e ∷ f ∷ g ∷ h ∷ i ∷ cells) origin a b c d k four is_a is_b is_c is_d = absurd (omega (arith, four))

-- the rows that are kept, tried for each row of the pivot
pub keeps : (y : ℕ) → y ≤ 9 → Keeps (bit_and (1020 / 2 ^ y) 255 * 4311810305) y
unfolding has_bit
keeps y low = record {
  kept = λ c r few_columns few_rows.
      agree_below_at (λ r. has_bit (bit_and (1020 / 2 ^ y) 255 * 4311810305) (8 * c + r)) (λ r. nat_le 2 (y + r) && nat_le (y + r) 9) 5 r
      (agree_below_at (λ c. rows_agree y c) (λ c. true) 5 c
      (agree_below_at (λ y. agree_below (λ c. rows_agree y c) (λ c. true) 5) (λ y. true) 10 y refl (omega arith)) (omega arith)) (omega arith);
}
  where
    rows_agree : ℕ → ℕ → Bool
    rows_agree y c = agree_below (λ r. has_bit (bit_and (1020 / 2 ^ y) 255 * 4311810305) (8 * c + r)) (λ r. nat_le 2 (y + r) && nat_le (y + r) 9) 5

-- the bits that stay within the rows, moved with the pivot
pub placed_bit : (p : Piece) (r : Rotation) (bits rows x y a b : ℕ) → ((k : ℕ) → has_bit bits k ≡ has_shape_bit (shape p r) k) → Keeps rows y → a ≤ 9 → b ≤ 7 →
    has_bit (bit_and bits rows * 2 ^ (8 * x + y) % 2 ^ 128 / 2 ^ 18) (8 * a + b) ≡ is_among (map (moved (pos x, pos y)) (shape p r)) (pos a, pos b)
placed_bit p r bits rows x y a b is keeps column row =
    search (rules, (has_bit-shifted_right ((bit_and bits rows) * 2 ^ (8 * x + y) % 2 ^ 128) 18 (8 * a + b)), (has_bit-low ((bit_and bits rows) * 2 ^ (8 * x + y)) 128 (18 + (8 * a + b))), (cases_lt (18 + (8 * a + b)) (8 * x + y)), (has_bit-shifted_low (bit_and bits rows) (8 * x + y) (18 + (8 * a + b))), (none_low x y a b (shape p r)), has_bit-shifted_high, has_bit-and, is, bits_here, shape_near, keeps, (all_here x y a b (shape p r) (shape_near p r)))

-- where the pivot lies further off, no cell lies in the columns and rows
pub none_placed : (p : Piece) (r : Rotation) (x y a b : ℕ) → a ≤ 9 → b ≤ 7 → (x < 12 → y < 10 → ⊥) → is_among (map (moved (pos x, pos y)) (shape p r)) (pos a, pos b) ≡ false
none_placed p r x y a b column row off = search (rules, all_here, shape_near, false_from_ne_true, and_parts, eqb-true)
