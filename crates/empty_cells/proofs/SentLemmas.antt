-- A set with one cell more, and cells whose rows are sent to others.
use Rattle.std.proofs.Common.{◌≡◌, ℕ, ◌+◌, ◌-◌, ◌*◌, ◌^◌, ◌%◌, ◌<◌, ◌≤◌, true, ◌&&◌, ◌||◌, ◌==◌, nat_lt, bit_or, List, [], ◌∷◌, map, refl, ap, rules}
use Rattle.std.specs.List.{list_any}
use Rattle.std.proofs.lemmas.Bool.{cases_eq, cases_lt, and_from, and_left, and_parts, and_right, eq-eqb, eqb-true, le-ltb, lt-ltb, ne_eqb}
use Rattle.std.proofs.lemmas.Nat.{one_shl, or_lt, pow_below}
use Rattle.lane_board.specs.Lanes.{has_bit}
use Rattle.lane_board.proofs.CallerLemmas.{has_bit-low, has_bit-or, has_bit-past, has_bit-shifted_high, has_bit-shifted_low, same_from_both}
use Rattle.srs.specs.Cells.{Cell}
use Rattle.srs.specs.SameCells.{cell_eq, is_among}

lowest : has_bit 1 0 ≡ true
unfolding has_bit
lowest = refl

-- a word with one bit
pub one_bit : (width bit k : ℕ) → k < width → has_bit (1 * 2 ^ bit % 2 ^ width) k ≡ (bit == k)
one_bit width bit k within =
    search (rules, (has_bit-low (1 * 2 ^ bit) width k within), (cases_lt k bit), (has_bit-shifted_low 1 bit k), (ne_eqb bit k), (has_bit-shifted_high 1 bit k), (cases_eq bit k), lowest, (eq-eqb bit k), (has_bit-past 1 1 (k - bit)))

-- each cell of the columns and rows has a bit of its own
own_bit : (x y a b : ℕ) → x ≤ 9 → y ≤ 7 → b < 8 → has_bit (1 * 2 ^ (8 * x + y) % 2 ^ 128) (8 * a + b) ≡ (x == a && y == b)
own_bit x y a b column row low =
    search (rules, (cases_lt (8 * a + b) 128), (one_bit 128 (8 * x + y) (8 * a + b)), same_from_both, eqb-true, and_from, (eq-eqb x a), (eq-eqb y b), (eqb-true x a), (and_parts (x == a) (y == b)), (eqb-true y b), eq-eqb, (has_bit-past (1 * 2 ^ (8 * x + y) % 2 ^ 128) 128 (8 * a + b)), (and_left (x == a) (y == b)), (ne_eqb x a))

pub bit_added : (n x y a b : ℕ) → x ≤ 9 → y ≤ 7 → (nat_lt b 8 && has_bit (bit_or n (1 * 2 ^ (8 * x + y) % 2 ^ 128)) (8 * a + b)) ≡ ((nat_lt b 8 && has_bit n (8 * a + b)) || (x == a && y == b))
bit_added n x y a b column row = search (rules, cases_lt, lt-ltb, has_bit-or, own_bit, le-ltb, and_right, ne_eqb)

-- a cell among others that were sent is one that was sent from among them
pub among_sent : (f : Cell → Cell) (cells : List Cell) (cell : Cell) → is_among (map f cells) cell ≡ list_any (λ c. cell_eq (f c) cell) cells
unfolding is_among
among_sent f [] cell = refl
among_sent f (c ∷ cells) cell = ap (λ b. cell_eq (f c) cell || b) (among_sent f cells cell)

pub added_small : (n x y : ℕ) → n < 2 ^ 80 → x ≤ 9 → y ≤ 7 → bit_or n (1 * 2 ^ (8 * x + y) % 2 ^ 128) < 2 ^ 80
added_small n x y small column row = search (rules, (bit_or n), (one_shl (8 * x + y) 128), (or_lt 80 n (2 ^ (8 * x + y)) small), (pow_below (8 * x + y) 80))
