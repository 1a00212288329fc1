-- The bits that stand for the cells of a span.
use Rattle.std.proofs.Common.{◌≡◌, ℕ, ◌+◌, ◌-◌, ◌*◌, ◌%◌, ◌^◌, ◌<◌, ◌≤◌, Bool, true, false, ◌&&◌, ◌||◌, ◌==◌, bit_and, bit_xor, List, [], ◌∷◌, refl, ap, ◌∙◌, sym, inl, inr, arith, rules}
use Rattle.std.specs.List.{list_any}
use Rattle.std.proofs.lemmas.Bool.{cases_lt, eqb-true, eq-eqb, ne_eqb, and_parts, and_from}
use Rattle.std.proofs.lemmas.Nat.{xor_lt, and_le_l, mul-lt, pow-add, pow_below}
use Rattle.std.proofs.Math.Nat.{mul_assoc}
use Rattle.std.proofs.Math.Bool.{and-true, and-or_distrib_right}
use Rattle.lane_board.specs.Lanes.{has_bit}
use Rattle.lane_board.proofs.CallerLemmas.{same_from_both, has_bit-past, has_bit-low, has_bit-shifted_low, has_bit-shifted_high}
use Rattle.empty_cells.specs.declared.span.Span.{Span}
use Rattle.empty_cells.specs.Spans.{columns_of}

-- the bits of the columns of a span
abbrev pub is_column_bit : Span → ℕ → Bool
is_column_bit span k = list_any (λ column. 8 * column == k) (columns_of span)

-- they are four columns of eight rows at most
none_above : (span : Span) (k : ℕ) → 32 ≤ k → is_column_bit span k ≡ false
none_above span k above = search rules

pub each_column_bit : (span : Span) (n k : ℕ) → n < 2 ^ 32 → ((j : ℕ) → j < 32 → has_bit n j ≡ is_column_bit span j) → has_bit n k ≡ is_column_bit span k
each_column_bit span n k small below = search (rules, (cases_lt k 32), (has_bit-past n 32 k small), (none_above span k))

-- bits further up, taken together

pub and_two : (a b : Bool) → (a && b) ≡ (a && (b && true))
and_two a b = search (rules, and-true)

pub and_three : (a b c : Bool) → ((a && b) && c) ≡ (a && (b && (c && true)))
and_three a b c = search (rules, and_two)

pub and_four : (a b c d : Bool) → (((a && b) && c) && d) ≡ (a && (b && (c && (d && true))))
and_four a b c d = search (rules, and_three)

pub bit_here : (n k : ℕ) → has_bit n k ≡ has_bit n (8 * 0 + k)
bit_here n k = ap (has_bit n) (omega arith)

-- a bit of a number is that of a cell
elem : (c x y a b : ℕ) → y < 8 → b < 8 → (8 * c + (8 * x + y) == 8 * a + b) ≡ ((x + c == a) && (y == b))
elem c x y a b small_y small_b = search (rules, same_from_both, eqb-true, and_from, eq-eqb, and_parts)

each_elem : (columns : List ℕ) (x y a b : ℕ) → y < 8 → b < 8 → list_any (λ c. 8 * c + (8 * x + y) == 8 * a + b) columns ≡ (list_any (λ c. x + c == a) columns && (y == b))
each_elem [] x y a b small_y small_b = refl
each_elem (c ∷ columns) x y a b small_y small_b =
    search (rules, elem, and-or_distrib_right, (each_elem columns x y a b small_y small_b))

above_all : (columns : List ℕ) (k j : ℕ) → j < k → list_any (λ c. 8 * c + k == j) columns ≡ false
above_all [] k j below = refl
above_all (c ∷ columns) k j below = ap (λ t. t || list_any (λ c. 8 * c + k == j) columns) (ne_eqb (8 * c + k) j (λ e. omega arith)) ∙ above_all columns k j below

moved_elem : (columns : List ℕ) (k j : ℕ) → k ≤ j → list_any (λ c. 8 * c == j - k) columns ≡ list_any (λ c. 8 * c + k == j) columns
moved_elem columns k j above = search (rules, same_from_both, eqb-true, eq-eqb)

-- the bits of a span that is moved to the cell (x, y)
moved_bit : (span : Span) (m x y a b : ℕ) → ((k : ℕ) → has_bit m k ≡ is_column_bit span k) → y < 8 → b < 8 →
    has_bit (m * 2 ^ (8 * x + y)) (8 * a + b) ≡ (list_any (λ c. x + c == a) (columns_of span) && (y == b))
moved_bit span m x y a b bits small_y small_b = elim (cases_lt (8 * a + b) (8 * x + y)) [
  | inl low ↦ has_bit-shifted_low m (8 * x + y) (8 * a + b) low ∙ sym (above_all (columns_of span) (8 * x + y) (8 * a + b) low)
  | inr high ↦ has_bit-shifted_high m (8 * x + y) (8 * a + b) high ∙ bits ((8 * a + b) - (8 * x + y)) ∙ moved_elem (columns_of span) (8 * x + y) (8 * a + b) high
] ∙ each_elem (columns_of span) x y a b small_y small_b

-- the same where bits past the highest are lost
pub taken_bit : (span : Span) (m x y a b : ℕ) → ((k : ℕ) → has_bit m k ≡ is_column_bit span k) → y < 8 → b < 8 → a < 10 →
    has_bit (m * 2 ^ (8 * x + y) % 2 ^ 128) (8 * a + b) ≡ (list_any (λ c. x + c == a) (columns_of span) && (y == b))
taken_bit span m x y a b bits small_y small_b small_a = has_bit-low (m * 2 ^ (8 * x + y)) 128 (8 * a + b) (omega arith) ∙ moved_bit span m x y a b bits small_y small_b

-- taking bits away leaves no more than there were
pub left_small : (n m : ℕ) → n < 2 ^ 80 → bit_xor n (bit_and n m) < 2 ^ 80
left_small n m small = xor_lt 80 n (bit_and n m) small (omega (arith, and_le_l n m))

-- to move to a row and then to a column is to move once
pub moved_twice : (m x y : ℕ) → m < 2 ^ 32 → y < 8 → (m * 2 ^ y % 2 ^ 64) * 2 ^ (8 * x) ≡ m * 2 ^ (8 * x + y)
moved_twice m x y low small = search (rules, (mul_assoc m (2 ^ y) (2 ^ (8 * x))), (pow-add 2 y (8 * x)), (mul-lt m (2 ^ y) (2 ^ 32) (2 ^ 8) low (pow_below y 8 small)))
