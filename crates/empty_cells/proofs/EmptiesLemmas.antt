-- The cells that the bits of a set stand for.
use Rattle.std.proofs.Common.{◌≡◌, ℕ, ◌+◌, ◌*◌, ◌/◌, ◌%◌, ◌<◌, Bool, true, false, not, ◌&&◌, nat_lt, pos, negsuc, refl, ap, ◌∙◌, sym, arith, rules}
use Rattle.std.proofs.Math.Path.{fun_ext}
use Rattle.std.specs.Int.{bit_at}
use Rattle.std.proofs.lemmas.Bool.{both_ways, false≢true, cases_lt, and_left, and_right, and_from, and_parts, le-ltb, lt-ltb, ltb-true}
use Rattle.std.proofs.lemmas.Nat.Bits.{bit_at_above}
use Rattle.lane_board.specs.Field.{Field, has_cell}
use Rattle.lane_board.specs.Lanes.{has_bit}
use Rattle.lane_board.proofs.CallerLemmas.{has_bit-zero, has_bit-past, same_from_columns}
use Rattle.srs.specs.Cells.{Cell}
use Rattle.empty_cells.specs.declared.empties.Empties.{Empties}
use Rattle.empty_cells.specs.Empties.{cells_by_column, empty_cells, has_cell_at}
use Rattle.empty_cells.specs.Spans.{HasNoCell, IsFirst}
use Rattle.empty_cells.proofs.StackLemmas.{IsSmall}

pub none_in_zero : (e : Empties) → e.cells ≡ 0 → HasNoCell (empty_cells e)
unfolding empty_cells cells_by_column
none_in_zero e zero = record { none = λ x y. and_right (nat_lt y 8) _ (ap (λ n. has_bit n (8 * x + y)) zero ∙ has_bit-zero (8 * x + y)) }

no_bit : (n x y : ℕ) → (y < 8 → bit_at n (8 * x + y) ≡ 0) → (nat_lt y 8 && has_bit n (8 * x + y)) ≡ false
unfolding has_bit
no_bit n x y none = search (rules, cases_lt, and_right, and_left, le-ltb)

-- the lowest bit is the lowest cell of the leftmost column
pub first_from_lowest : (e : Empties) (t : ℕ) → bit_at e.cells t ≡ 1 → ((i : ℕ) → i < t → bit_at e.cells i ≡ 0) → IsFirst (empty_cells e) (t / 8) (t % 8)
unfolding empty_cells cells_by_column has_bit
first_from_lowest e t set lower = search (rules, and_from, lt-ltb, no_bit, (cases_lt t 80), (bit_at_above e.cells 80 t e.in_columns))

-- the cells lie in columns 0 to 9 and rows 0 to 7
pub cells_small : (e : Empties) → IsSmall 8 (empty_cells e)
unfolding empty_cells cells_by_column
cells_small e = search (rules, cases_lt, both_ways, (has_bit-past e.cells 80), and_parts, nat_lt, ltb-true)

-- what is taken beside the columns and rows makes no difference
pub same_left : (e : Empties) (x y : ℕ) (q r : Bool) → (x < 10 → y < 8 → q ≡ r) → (empty_cells e x y && not q) ≡ (empty_cells e x y && not r)
same_left e x y q r same = search (rules, (cells_small e))

-- sets with the same cells have the same bits
pub same_bits : (e f : Empties) → empty_cells e ≡ empty_cells f → e.cells ≡ f.cells
unfolding empty_cells cells_by_column
same_bits e f same = same_from_columns e.cells f.cells each
  where
    of_cell : (n k : ℕ) → (nat_lt (k % 8) 8 && has_bit n (8 * (k / 8) + k % 8)) ≡ has_bit n k
    of_cell n k = ap (λ t. t && has_bit n (8 * (k / 8) + k % 8)) (lt-ltb (k % 8) 8 (omega arith)) ∙ ap (has_bit n) {x = 8 * (k / 8) + k % 8} {y = k} (omega arith)

    each : (k : ℕ) → has_bit e.cells k ≡ has_bit f.cells k
    each k = sym (of_cell e.cells k) ∙ ap (λ (E : Field). E (k / 8) (k % 8)) same ∙ of_cell f.cells k

pub from_bits : (e f : Empties) → e.cells ≡ f.cells → empty_cells e ≡ empty_cells f
unfolding empty_cells cells_by_column
from_bits e f same = fun_ext (λ x. fun_ext (λ y. ap (λ n. nat_lt y 8 && has_bit n (8 * x + y)) same))

-- a cell of the set
pub record CellOf (E : Field) (c : Cell) : Type 0 where
  pub x : ℕ
  pub y : ℕ
  pub is : c ≡ (pos x, pos y)
  pub has : E x y ≡ true

pub cell_of : (E : Field) (c : Cell) → has_cell_at E c ≡ true → CellOf E c
unfolding has_cell
cell_of E (pos x, pos y) here = record { x = x; y = y; is = refl; has = here }
cell_of E (pos x, negsuc y) here = absurd (false≢true here)
cell_of E (negsuc x, y) here = absurd (false≢true here)
