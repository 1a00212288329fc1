-- All cells of a set and those before a column, a start before a wall, and parity.
use Rattle.std.proofs.Common.{◌≡◌, ◌≢◌, ℕ, ◌+◌, ◌-◌, ◌*◌, ◌%◌, ◌^◌, ◌<◌, ◌≤◌, Bool, true, not, ◌&&◌, bit_and, count_ones, ap, ◌∙◌, arith, rules}
use Rattle.std.specs.Prelude.{min, sum_by}
use Rattle.std.specs.List.{range_with_len}
use Rattle.std.proofs.lemmas.Bool.{lt-ltb}
use Rattle.std.proofs.lemmas.Nat.{and_mask, mod_below, one_shl, pow_pos}
use Rattle.lane_board.specs.Field.{Field}
use Rattle.lane_board.specs.Lanes.{has_bit}
use Rattle.lane_board.proofs.CallerLemmas.{has_bit-low}
use Rattle.prune.specs.Tiling.{Supply, Tiling}
use Rattle.prune.specs.Counts.{column_empties, run_empties, even_column_empties}
use Rattle.prune.specs.Walls.{IsWall}
use Rattle.prune.proofs.CallerLemmas.{all_empties, even_columns, no_uneven_part}
use Rattle.empty_cells.specs.declared.empties.Empties.{Empties}
use Rattle.empty_cells.specs.Empties.{all_but, cells_by_column, empty_cells}
use Rattle.empty_cells.specs.Refusals.{HasUnevenStart, HasWrongParity}
use Rattle.empty_cells.proofs.ColumnBits.{ones_columns}

twice : (p q : Bool) → p ≡ true → q ≡ not (not (p && q))
twice p q here = search rules

is_cell : (e : Empties) (a b : ℕ) → b < 8 → has_bit e.cells (8 * a + b) ≡ not (all_but (empty_cells e) a b)
unfolding empty_cells cells_by_column all_but
is_cell e a b below = twice _ _ (lt-ltb b 8 below)

-- all cells
pub ones_all : (e : Empties) → count_ones e.cells ≡ run_empties (all_but (empty_cells e)) 8 0 9
unfolding run_empties
ones_all e = ones_columns (all_but (empty_cells e)) 10 e.cells e.in_columns (λ a b near below. is_cell e a b below)

-- those of the first columns
pub ones_before : (e : Empties) (n k : ℕ) → n ≤ 10 → k ≡ 8 * n
    → count_ones (bit_and e.cells (1 * 2 ^ k % 2 ^ 128 - 1)) ≡ sum_by (column_empties (all_but (empty_cells e)) 8) (range_with_len 0 n)
ones_before e n k near is =
    ap (λ m. count_ones (bit_and e.cells (m - 1))) (one_shl k 128 (omega (arith, near, is))) ∙ ap count_ones (and_mask e.cells k)
    ∙ ap (λ m. count_ones (e.cells % 2 ^ m)) is
    ∙ ones_columns (all_but (empty_cells e)) n (e.cells % 2 ^ (8 * n)) (mod_below e.cells (2 ^ (8 * n)) (pow_pos (8 * n)))
    (λ a b few below. has_bit-low e.cells (8 * n) (8 * a + b) (omega (arith, few, below)) ∙ is_cell e a b below)

pub before_min : (e : Empties) (n column : ℕ) → n ≡ min column 10
    → count_ones (bit_and e.cells (1 * 2 ^ (8 * n) % 2 ^ 128 - 1)) ≡ sum_by (column_empties (all_but (empty_cells e)) 8) (range_with_len 0 (min column 10))
before_min e n column is = ones_before e n (8 * n) (omega (arith, is)) (omega arith) ∙ ap (λ k. sum_by (column_empties (all_but (empty_cells e)) 8) (range_with_len 0 k)) is

-- no column before this one is the last of an uneven start
pub record NoStart (E : Field) (n : ℕ) : Type 0 where
  pub none : (last : ℕ) → last < n → IsWall (all_but E) 8 (last + 1) → run_empties (all_but E) 8 0 last % 4 ≢ 0 → ⊥

-- the columns up to a wall are an uneven part
pub start_untiled : (E : Field) (supply : Supply) → HasUnevenStart E → Tiling (all_but E) 8 supply → ⊥
start_untiled E supply start tiling = no_uneven_part _ _ supply tiling (record {
  first = 0;
  last = start.last;
  order = omega arith;
  within = omega (arith, start.near);
  left = record { apart = λ some _ y below before at. absurd (omega (arith, some)) };
  right = start.wall;
  uneven = start.uneven;
})

-- even and odd columns
pub halves : (F : Field) → sum_by (λ k. column_empties F 8 (2 * k + 0)) (range_with_len 0 5) + sum_by (λ k. column_empties F 8 (2 * k + 1)) (range_with_len 0 5) ≡ run_empties F 8 0 9
unfolding run_empties
halves F = omega arith

pub evens : (F : Field) → sum_by (λ k. column_empties F 8 (2 * k + 0)) (range_with_len 0 5) ≡ even_column_empties F 8
unfolding even_column_empties
evens F = omega arith

-- a tiling would have another number of cells in even columns
pub parity_untiled : (E : Field) (supply : Supply) → HasWrongParity E supply → Tiling (all_but E) 8 supply → ⊥
unfolding run_empties
parity_untiled E supply wrong tiling = wrong.odd (even_columns (all_but E) 8 supply wrong.without_t (omega (arith, all_empties (all_but E) 8, wrong.used_up)) tiling)
