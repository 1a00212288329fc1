-- The cells of a placement one by one, how many cells locking leaves, and below which row they lie.
use Rattle.std.proofs.Common.{◌≡◌, ℕ, zero, suc, ◌+◌, ◌-◌, ◌≤◌, Bool, true, false, not, ◌&&◌, ◌||◌, pos, negsuc, ◌+ℤ◌, List, [], ◌∷◌, length, get_or, map, refl, sym, ap, ◌∙◌, arith, rules}
use Rattle.std.proofs.Math.Path.{fun_ext}
use Rattle.std.specs.List.{list_all}
use Rattle.std.specs.Cmp.{both_ways}
use Rattle.std.proofs.lemmas.Bool.{and_parts, and_from, or_from, false_from_ne_true, false≢true, not-true, not_from_false, eqb-true, eq-eqb, leb-true, ltb-true}
use Rattle.std.proofs.lemmas.Int.{ints}
use Rattle.std.proofs.Math.Bool.{or_assoc}
use Rattle.lane_board.specs.Field.{Field, with_cell}
use Rattle.lane_board.specs.FullRows.{full_below, without_full_rows}
use Rattle.lane_board.specs.CellCount.{cell_count}
use Rattle.lane_board.proofs.CallerLemmas.{takes_ten_each, or_none, cell_count-with, left_below, without_full_rows-empty, full_above, full_below-le, not_full_from_cell}
use Rattle.srs.specs.declared.piece.Piece.{Piece}
use Rattle.srs.specs.declared.rotation.Rotation.{Rotation}
use Rattle.srs.specs.declared.placement.Placement.{Placement}
use Rattle.srs.specs.Cells.{Cell, moved, shape, cells_of, pivot_of}
use Rattle.srs.specs.SameCells.{cell_eq, is_among}
use Rattle.srs.proofs.CallerLemmas.{cell_eq-decides, is_among-all, each_state, cells_length}
use Rattle.well.specs.Free.{is_open, is_free_at, is_free}
use Rattle.well.specs.Lock.{with_cell_at, with_cells, together, locked, rows_removed}
use Rattle.well.specs.LockLaws.{AddsFourCells, LiesBelow, is_below, StaysBelow, RemovesBelow}

-- a cell of the well is added as a column and a row are
pub placed : (F : Field) (column row : ℕ) → with_cell_at F (pos column, pos row) ≡ with_cell F column row
unfolding with_cell_at with_cell
placed F column row = search (rules, fun_ext, cell_eq-decides, and_from, eq-eqb, and_parts, eqb-true, both_ways)

with_cells-nil : (F : Field) → with_cells F [] ≡ F
unfolding with_cells is_among
with_cells-nil F = fun_ext (λ x. fun_ext (λ y. or_none (F x y) false refl))

with_cells-cons : (F : Field) (cell : Cell) (cells : List Cell) → with_cells F (cell ∷ cells) ≡ with_cells (with_cell_at F cell) cells
unfolding with_cells is_among with_cell_at
with_cells-cons F cell cells = fun_ext (λ x. fun_ext (λ y. sym (or_assoc (F x y) (cell_eq cell (pos x, pos y)) (is_among cells (pos x, pos y)))))

-- four cells are added one after another
with_four : (F : Field) (cells : List Cell) (d : Cell) → length cells ≡ 4 →
    with_cells F cells ≡ with_cell_at (with_cell_at (with_cell_at (with_cell_at F (get_or cells 0 d)) (get_or cells 1 d)) (get_or cells 2 d)) (get_or cells 3 d)
with_four F (a ∷ b ∷ c ∷ e ∷ []) d four = with_cells-cons F a _ ∙ with_cells-cons _ b _ ∙ with_cells-cons _ c _ ∙ with_cells-cons _ e [] ∙ with_cells-nil _
with_four F [] d four = absurd (omega arith)
with_four F (a ∷ []) d four = absurd (omega arith)
with_four F (a ∷ b ∷ []) d four = absurd (omega arith)
with_four F (a ∷ b ∷ c ∷ []) d four = absurd (omega arith)
with_four F (a ∷ b ∷ c ∷ e ∷ f ∷ cells) d four = absurd (omega arith)

pub together_of : (F : Field) (q : Placement) (cells : List Cell) (d : Cell) → cells ≡ cells_of q →
    with_cell_at (with_cell_at (with_cell_at (with_cell_at F (get_or cells 0 d)) (get_or cells 1 d)) (get_or cells 2 d)) (get_or cells 3 d) ≡ together F q
unfolding together with_cells
together_of F q cells d e = sym (with_four F cells d (ap length e ∙ cells_length q)) ∙ ap (with_cells F) e

-- no cell stands twice in the list
are_distinct : List Cell → Bool
are_distinct [] = true
are_distinct (cell ∷ cells) = list_all (λ other. not (cell_eq cell other)) cells && are_distinct cells

shapes_distinct : (piece : Piece) (rotation : Rotation) → are_distinct (shape piece rotation) ≡ true
unfolding are_distinct
shapes_distinct = each_state (λ p r. are_distinct (shape p r)) refl

moved_apart : (move c d : Cell) → not (cell_eq c d) ≡ true → not (cell_eq (moved move c) (moved move d)) ≡ true
unfolding moved
moved_apart move c d apart = not_from_false _ (false_from_ne_true _ (λ e. both (cell_eq c d) apart ((cell_eq-decides c d).1 (same ((cell_eq-decides _ _).0 e)))))
  where
    same : ◌≡◌ {A = Cell} (move.0 +ℤ c.0, move.1 +ℤ c.1) (move.0 +ℤ d.0, move.1 +ℤ d.1) → c ≡ d
    same e =
        let f : move.0 +ℤ c.0 ≡ move.0 +ℤ d.0 = ap (λ (c : Cell). c.0) e in
        let g : move.1 +ℤ c.1 ≡ move.1 +ℤ d.1 = ap (λ (c : Cell). c.1) e in
        let x : c.0 ≡ d.0 = omega (arith, ints) in
        let y : c.1 ≡ d.1 = omega (arith, ints) in
        λ i. (x i, y i)

    both : (b : Bool) → not b ≡ true → b ≡ true → ⊥
    both b n y = search rules

moved_from_each : (move cell : Cell) (cells : List Cell) → list_all (λ other. not (cell_eq cell other)) cells ≡ true → list_all (λ other. not (cell_eq (moved move cell) other)) (map (moved move) cells) ≡ true
moved_from_each move cell [] apart = refl
moved_from_each move cell (c ∷ cs) apart =
    search (rules, and_parts, and_from, moved_apart, (moved_from_each move cell cs))

moved_distinct : (move : Cell) (cells : List Cell) → are_distinct cells ≡ true → are_distinct (map (moved move) cells) ≡ true
unfolding are_distinct
moved_distinct move [] distinct = refl
moved_distinct move (c ∷ cs) distinct =
    let parts = and_parts _ _ distinct in
    and_from _ _ (moved_from_each move c cs parts.0) (moved_distinct move cs parts.1)

-- an open cell that is added leaves the others open
still_open : (F : Field) (cell other : Cell) → not (cell_eq cell other) ≡ true → is_open F other ≡ true → is_open (with_cell_at F cell) other ≡ true
unfolding is_open with_cell_at
still_open F cell other apart opened =
    search (rules, and_parts, and_from, not_from_false, or_from, not-true, false≢true)

all_still_open : (F : Field) (cell : Cell) (cells : List Cell) → list_all (λ other. not (cell_eq cell other)) cells ≡ true → list_all (is_open F) cells ≡ true → list_all (is_open (with_cell_at F cell)) cells ≡ true
all_still_open F cell [] apart opened = refl
all_still_open F cell (c ∷ cs) apart opened =
    search (rules, and_parts, and_from, still_open, (all_still_open F cell cs))

-- an open cell is one more
with_cell_count : (F : Field) (cell : Cell) → is_open F cell ≡ true → cell_count (with_cell_at F cell) 23 ≡ cell_count F 23 + 1
unfolding is_open
with_cell_count F (pos x, pos y) opened = search (rules, and_parts, placed, cell_count-with, leb-true, not-true)
with_cell_count F (pos x, negsuc y) opened = absurd (false≢true opened)
with_cell_count F (negsuc x, pos y) opened = absurd (false≢true opened)
with_cell_count F (negsuc x, negsuc y) opened = absurd (false≢true opened)

with_cells_count : (F : Field) (cells : List Cell) → list_all (is_open F) cells ≡ true → are_distinct cells ≡ true → cell_count (with_cells F cells) 23 ≡ cell_count F 23 + length cells
unfolding are_distinct
with_cells_count F [] opened distinct = omega (arith, ap (λ G. cell_count G 23) (with_cells-nil F))
with_cells_count F (c ∷ cs) opened distinct =
    search (rules, and_parts, with_cells-cons, with_cell_count, all_still_open, (with_cells_count (with_cell_at F c) cs))

together_count : (F : Field) (q : Placement) → is_free F q ≡ true → cell_count (together F q) 23 ≡ cell_count F 23 + 4
unfolding together with_cells is_free_at
together_count F q free =
    omega (arith, with_cells_count F (cells_of q) free (moved_distinct (pivot_of q) (shape q.piece q.rotation) (shapes_distinct q.piece q.rotation)), cells_length q)

pub adds_four_cells : AddsFourCells
unfolding locked rows_removed
adds_four_cells F q free = omega (arith, takes_ten_each (together F q) 23, together_count F q free)

-- no full row lies above the cells of a field, and nothing is left of the rows there
removal_above : (G : Field) (height k : ℕ) → ((x y : ℕ) → height ≤ y → G x y ≡ false) → without_full_rows G (height + k) ≡ without_full_rows G height
removal_above G height zero none = ap (without_full_rows G) (omega arith)
removal_above G height (suc k) none =
    let size : height + suc k ≡ suc (height + k) = omega arith in
    ap (without_full_rows G) size ∙ without_full_rows-empty G (height + k) (λ x. none x (height + k) (omega arith)) ∙ removal_above G height k none

-- a cell of the placement is not in row `height` or above
below_cell : (q : Placement) (height x y : ℕ) → is_below height q ≡ true → height ≤ y → is_among (cells_of q) (pos x, pos y) ≡ false
below_cell q height x y below above = search (rules, false_from_ne_true, ltb-true, is_among-all)

-- no cell stands above the height once the placement is there
pub together_below : (F : Field) (q : Placement) (height : ℕ) → LiesBelow F height → is_below height q ≡ true → (x y : ℕ) → height ≤ y → together F q x y ≡ false
unfolding together with_cells
together_below F q height below placed x y above = or_from _ _ (below.none x y above) (below_cell q height x y placed above)

pub full_below_height : (G : Field) (height : ℕ) → height ≤ 23 → ((x y : ℕ) → height ≤ y → G x y ≡ false) → full_below G 23 ≡ full_below G height
full_below_height G height within none = let size : 23 ≡ height + (23 - height) = omega arith in ap (full_below G) size ∙ full_above G height (23 - height) (λ y above. not_full_from_cell G 0 y (omega arith) (none 0 y above))

pub stays_below : StaysBelow
unfolding locked rows_removed
stays_below F q height within below placed x y above =
    let none = together_below F q height below placed in
    let size : 23 ≡ height + (23 - height) = omega arith in
    let same : without_full_rows (together F q) 23 ≡ without_full_rows (together F q) height = ap (without_full_rows (together F q)) size ∙ removal_above (together F q) height (23 - height) none in
    ap (λ G. G x y) same ∙ false_from_ne_true _ (λ left. omega (arith, left_below (together F q) height x y left, full_below_height (together F q) height within none, above))

pub removes_below : RemovesBelow
unfolding rows_removed
removes_below F q height within below placed = omega (arith, full_below_height (together F q) height within (together_below F q height below placed), full_below-le (together F q) height)

-- locking is filling, and then removing the full rows
module _ (F G : Field) (q : Placement) (filling : G ≡ together F q) where
  pub locked-by : (H : Field) → H ≡ without_full_rows G 23 → H ≡ locked F q
  unfolding locked
  locked-by H removing = removing ∙ ap (λ F. without_full_rows F 23) filling

  pub removed-by : (removed : ℕ) → removed ≡ full_below G 23 → removed ≡ rows_removed F q
  unfolding rows_removed
  removed-by removed counted = counted ∙ ap (λ F. full_below F 23) filling
