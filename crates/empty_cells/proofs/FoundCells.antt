-- The empty cells of a well, found row by row: the ten cells of a row are set eight bits apart.
use Rattle.std.proofs.Common.{◌≡◌, ℕ, zero, suc, ◌+◌, ◌-◌, ◌*◌, ◌/◌, ◌%◌, ◌^◌, ◌<◌, ◌≤◌, Bool, true, false, not, ◌&&◌, ◌||◌, ◌==◌, nat_lt, bit_and, bit_or, bit_xor, refl, ap, ap₂, ◌∙◌, sym, inl, inr, arith, rules}
use Rattle.std.proofs.Math.Path.{fun_ext}
use Rattle.std.proofs.lemmas.Bool.{agree_below, agree_below_at, and_left, and_right, and_parts, cases_eq, cases_lt, eq-eqb, eqb-true, le-ltb, lt-ltb, ne_eqb}
use Rattle.std.proofs.lemmas.Nat.{and_le_l, mul-le, or_lt, pow_below, xor_lt}
use Rattle.lane_board.specs.Field.{Field, rows_below, difference}
use Rattle.lane_board.specs.Lanes.{has_bit}
use Rattle.lane_board.proofs.CallerLemmas.{has_bit-and, has_bit-and_not, has_bit-or, has_bit-past, has_bit-shifted_high, has_bit-shifted_low, has_bit-zero}
use Rattle.empty_cells.specs.declared.empties.Empties.{Empties}
use Rattle.empty_cells.specs.Empties.{cells_by_column, empty_cells}

-- the lowest cell of each column
abbrev lowest_cells : ℕ
lowest_cells = 4740885567116192841985

-- the cells of a row of ten: of seven columns, and of three more
abbrev spread_cells : ℕ → ℕ
spread_cells row = bit_or (bit_and (bit_and row 127 * 4432676798593) 282578800148737) (bit_and (row / 2 ^ 7 * 16513) 65793 * 2 ^ 56 % 2 ^ 128)

-- each row is tried
abbrev is_spread : ℕ → Bool
is_spread row = (bit_and lowest_cells (spread_cells row) == spread_cells row) && agree_below (λ x. has_bit (spread_cells row) (8 * x)) (has_bit row) 10

all_spread : (row : ℕ) → row < 1024 → is_spread row ≡ true
unfolding has_bit
all_spread row small = agree_below_at is_spread (λ _. true) 1024 row refl small

in_lowest : (row : ℕ) → row < 1024 → bit_and lowest_cells (spread_cells row) ≡ spread_cells row
in_lowest row small = eqb-true _ _ (and_parts _ _ (all_spread row small)).0

each_column : (row : ℕ) → row < 1024 → (x : ℕ) → x ≤ 9 → has_bit (spread_cells row) (8 * x) ≡ has_bit row x
each_column row small x column =
    agree_below_at (λ k. has_bit (spread_cells row) (8 * k)) (has_bit row) 10 x (and_parts (bit_and lowest_cells (spread_cells row) == spread_cells row) _ (all_spread row small)).1 (omega arith)

lowest_bit : (x y : ℕ) → x ≤ 9 → y < 8 → has_bit lowest_cells (8 * x + y) ≡ (y == 0)
unfolding has_bit
lowest_bit x y column row = search (rules, (agree_below_at (has_bit lowest_cells) (λ k. k % 8 == 0) 80 (8 * x + y) refl))

pub spread-bits : (row : ℕ) → row < 1024 → (x y : ℕ) → x ≤ 9 → y < 8 → has_bit (spread_cells row) (8 * x + y) ≡ ((y == 0) && has_bit row x)
spread-bits row small x y column low =
    search (rules, (in_lowest row small), (has_bit-and lowest_cells (spread_cells row) (8 * x + y)), (lowest_bit x y column low), (cases_eq y 0), (each_column row small x column), and_left, (ne_eqb y 0))

-- the empty cells of the rows before this one
pub record IsFound (F : Field) (cells y : ℕ) : Type 0 where
  pub small : cells < 2 ^ 80
  pub bits : (a b : ℕ) → a ≤ 9 → b < 8 → has_bit cells (8 * a + b) ≡ (nat_lt b y && not (F a b))

pub found-start : (F : Field) → IsFound F 0 0
found-start F = search (rules, has_bit-zero, and_left, le-ltb)

-- the cells of a row, moved up to their row
module _ (s : ℕ) (has : ℕ → Bool) (bits : (x y : ℕ) → x ≤ 9 → y < 8 → has_bit s (8 * x + y) ≡ ((y == 0) && has x)) where
  none_there : (x y : ℕ) → x ≤ 9 → y < 8 → 0 < y → has_bit s (8 * x + y) ≡ false
  none_there x y column row above = bits x y column row ∙ and_left _ _ (ne_eqb y 0 (omega arith))

  none_below : (y a b : ℕ) → y < 8 → a ≤ 9 → b < y → has_bit (s * 2 ^ y) (8 * a + b) ≡ false
  none_below y zero b row column below = has_bit-shifted_low s y (8 * 0 + b) (omega arith)
  none_below y (suc a) b row column below = search (rules, (has_bit-shifted_high s y (8 * suc a + b)), (none_there a (8 + b - y)))

  raised-bits : (y a b : ℕ) → y < 8 → a ≤ 9 → b < 8 → has_bit (s * 2 ^ y) (8 * a + b) ≡ ((b == y) && has a)
  raised-bits y a b row column low = elim (cases_lt b y) [
    | inl below ↦ none_below y a b row column below ∙ sym (and_left _ _ (ne_eqb b y (omega arith)))
    | inr from ↦ search (rules, has_bit-shifted_high, same_row)
  ]
    where
      same_row : y ≤ b → (b - y == 0) ≡ (b == y)
      same_row from = search (rules, cases_eq, eq-eqb, ne_eqb)

one_more : (b y : ℕ) (p : Bool) → ((nat_lt b y && p) || ((b == y) && p)) ≡ (nat_lt b (y + 1) && p)
one_more b y p = search rules

pub found-next : (F : Field) (cells s y : ℕ) → y < 8 → s < 2 ^ 73 →
    ((a b : ℕ) → a ≤ 9 → b < 8 → has_bit s (8 * a + b) ≡ ((b == 0) && not (F a y))) →
    IsFound F cells y → IsFound F (bit_or cells (s * 2 ^ y % 2 ^ 128)) (y + 1)
found-next F cells s y row small bits found = record {
  small = or_lt 80 cells _ found.small (omega (arith, whole, raised_small));
  bits = λ a b column low.
      has_bit-or cells _ (8 * a + b)
      ∙ ap₂ ◌||◌ (found.bits a b column low) (ap (λ n. has_bit n (8 * a + b)) whole ∙ raised-bits s (λ x. not (F x y)) bits y a b row column low ∙ in_row a b)
      ∙ one_more b y (not (F a b));
}
  where
    seven : 2 ^ y ≤ 2 ^ 7
    seven = search (rules, cases_lt, pow_below)

    raised_small : s * 2 ^ y < 2 ^ 80
    raised_small = omega (arith, small, mul-le s (2 ^ y) s (2 ^ 7) (omega arith) seven)

    whole : s * 2 ^ y % 2 ^ 128 ≡ s * 2 ^ y
    whole = omega (arith, raised_small)

    in_row : (a b : ℕ) → ((b == y) && not (F a y)) ≡ ((b == y) && not (F a b))
    in_row a b = search (rules, cases_eq, and_left, ne_eqb)

-- the bits of a row that is empty where the well's is filled
pub empty_bits : (row x : ℕ) → x ≤ 9 → has_bit (bit_xor 1023 (bit_and 1023 row)) x ≡ not (has_bit row x)
unfolding has_bit
empty_bits row x column = has_bit-and_not 1023 row x ∙ ap (λ b. b && not (has_bit row x)) all_ten
  where
    all_ten : has_bit 1023 x ≡ true
    all_ten = agree_below_at (has_bit 1023) (λ _. true) 10 x refl (omega arith)

pub empty-small : (row : ℕ) → bit_xor 1023 (bit_and 1023 row) < 1024
empty-small row = xor_lt 10 1023 (bit_and 1023 row) (omega arith) (omega (arith, and_le_l 1023 row))

-- when the rows are over, all empty cells are found
pub found-all : (F : Field) (rows y : ℕ) (e : Empties) → rows ≤ 8 → y ≡ rows → IsFound F e.cells y → empty_cells e ≡ difference (rows_below rows) F
unfolding empty_cells cells_by_column difference rows_below
found-all F rows y e few last found = search (rules, fun_ext, cases_lt, lt-ltb, and_left, le-ltb, and_right, (has_bit-past e.cells 80))
