-- Lists of rows, and the fields that they stand for.
use Rattle.std.proofs.Common.{◌≡◌, ℕ, ◌%◌, ◌<◌, ◌≤◌, Bool, true, false, ◌&&◌, ◌||◌, ◌==◌, nat_le, IsTrue, ◌↔◌, List, length, get_or, set, replicate, ap, ap₂, ◌∙◌, sym, inl, inr, arith, rules}
use Rattle.std.proofs.Math.Path.{fun_ext}
use Rattle.std.proofs.lemmas.Bool.{both_ways, cases_lt, cases_eq, and_parts, and_right, eqb-true, leb-true, eq-eqb, ne_eqb}
use Rattle.std.proofs.lemmas.List.{get_or_past, ext_get_or, get_or-replicate, length-replicate, get_or-set_same, get_or-set_other, set_past}
use Rattle.lane_board.specs.Field.{Field, empty_field, with_cell}
use Rattle.lane_board.specs.Lanes.{has_bit, cells_of_bits, is_lane_count}
use Rattle.lane_board.proofs.CellTests.{or_none, and_true}
use Rattle.lane_board.proofs.RowBits.{has_bit-zero, has_bit-above, same_from_columns}

-- rows come in eights
pub in_eights : (n : ℕ) → IsTrue (is_lane_count n) → n % 8 ≡ 0
in_eights n lanes = eqb-true (n % 8) 0 (and_parts (n % 8 == 0) (nat_le 8 n && nat_le n 32) lanes).0

pub few_rows : (n : ℕ) → IsTrue (is_lane_count n) → n ≤ 32
few_rows n lanes = leb-true n 32 (and_parts (nat_le 8 n) (nat_le n 32) (and_parts (n % 8 == 0) (nat_le 8 n && nat_le n 32) lanes).1).1

-- a board has no cell above its rows
pub no_cell_above : (n x y : ℕ) (rows : List ℕ) → length rows ≡ n → n ≤ y → cells_of_bits rows x y ≡ false
unfolding cells_of_bits
no_cell_above n x y rows size above = ap (λ row. has_bit row x) (get_or_past rows y 0 (omega arith)) ∙ has_bit-zero x

-- each row of a list is in the ten columns where each that it holds is
pub each_in_columns : (n : ℕ) (rows : List ℕ) → length rows ≡ n → ((y : ℕ) → y < n → get_or rows y 0 < 1024) → (y : ℕ) → get_or rows y 0 < 1024
each_in_columns n rows size each y = search (rules, cases_lt, get_or_past)

-- the cells of rows that are made of the rows of two boards
pub combined_cells : (of_rows : ℕ → ℕ → ℕ) (of_cells : Bool → Bool → Bool) → of_cells false false ≡ false → ((a b k : ℕ) → has_bit (of_rows a b) k ≡ of_cells (has_bit a k) (has_bit b k)) →
    (n : ℕ) (xs ys rows : List ℕ) → length xs ≡ n → length ys ≡ n → length rows ≡ n →
    ((y : ℕ) → y < n → get_or rows y 0 ≡ of_rows (get_or xs y 0) (get_or ys y 0)) →
    cells_of_bits rows ≡ (λ x y. of_cells (cells_of_bits xs x y) (cells_of_bits ys x y))
unfolding cells_of_bits
combined_cells of_rows of_cells none each n xs ys rows size_xs size_ys size made = fun_ext (λ x. fun_ext (λ y. elim (cases_lt y n) [
  | inl below ↦ ap (λ row. has_bit row x) (made y below) ∙ each (get_or xs y 0) (get_or ys y 0) x
  | inr above ↦ no_cell_above n x y rows size above ∙ sym none ∙ sym (ap₂ of_cells (no_cell_above n x y xs size_xs above) (no_cell_above n x y ys size_ys above))
]))

-- boards have the same cells exactly where they have the same rows
pub same_cells : (n : ℕ) (xs ys : List ℕ) → length xs ≡ n → length ys ≡ n → (cells_of_bits xs ≡ cells_of_bits ys) ↔ ((y : ℕ) → y < n → get_or xs y 0 ≡ get_or ys y 0)
unfolding cells_of_bits
same_cells n xs ys size_xs size_ys = (
  λ same y below. same_from_columns _ _ (λ x. ap (λ (F : Field). F x y) same),
  λ same. ap cells_of_bits (ext_get_or 0 xs ys (omega arith) (λ y below. same y (omega arith))),
)

pub zero_at : (n y : ℕ) → get_or {A = ℕ} (replicate n 0) y 0 ≡ 0
zero_at n y = search (rules, cases_lt, get_or-replicate, get_or_past, length-replicate)

pub cells_in-zeros : (n : ℕ) → cells_of_bits (replicate n 0) ≡ empty_field
unfolding cells_of_bits empty_field
cells_in-zeros n = fun_ext (λ x. fun_ext (λ y. ap (λ row. has_bit row x) (zero_at n y) ∙ has_bit-zero x))

-- the cells of a board are in its columns and rows
pub cell_within : (n : ℕ) (rows : List ℕ) (x y : ℕ) → length rows ≡ n → ((z : ℕ) → get_or rows z 0 < 1024) → cells_of_bits rows x y ≡ true → (x < 10) × (y < n)
unfolding cells_of_bits
cell_within n rows x y size small filled = search (rules, cases_lt, both_ways, has_bit-above, no_cell_above)

-- a board with one more cell
pub cells_in-with : (rows : List ℕ) (column y row : ℕ) → y < length rows → ((k : ℕ) → has_bit row k ≡ (has_bit (get_or rows y 0) k || k == column)) → cells_of_bits (set rows y row) ≡ with_cell (cells_of_bits rows) column y
unfolding cells_of_bits with_cell
cells_in-with rows column y row within added =
    search (rules, fun_ext, cases_eq, get_or-set_same, and_true, eq-eqb, get_or-set_other, or_none, and_right, ne_eqb)

pub in_columns-set : (rows : List ℕ) (y row : ℕ) → ((z : ℕ) → get_or rows z 0 < 1024) → row < 1024 → (z : ℕ) → get_or (set rows y row) z 0 < 1024
in_columns-set rows y row before small z =
    search (rules, cases_eq, cases_lt, get_or-set_same, set_past, get_or-set_other)
