-- One cell more.
use Rattle.std.proofs.Common.{◌≡◌, ◌<◌, ℕ, true, ◌&&◌, ◌||◌, ◌==◌, ◌+◌, List, take, get_or, nat_lt, pos, nat_abs, length, sym, ap, ap₂, subst, ◌∙◌, arith, rules}
use Rattle.std.proofs.Math.Path.{fun_ext}
use Rattle.std.proofs.lemmas.Bool.{and_parts, eq-eqb, eqb-true, ltb-true}
use Rattle.std.proofs.lemmas.Bool.Decides.{Decides-int_eq}
use Rattle.std.specs.Ordering.{int_eq}
use Rattle.lane_board.proofs.CallerLemmas.{same_from_both}
use Rattle.std.proofs.lemmas.Int.{ints}
use Rattle.std.proofs.lemmas.List.{take_all}
use Rattle.std.proofs.lemmas.List.Folds.{list_any_more}
use Rattle.std.specs.List.{list_all}
use mir.Syntax.{w8}
use mir.Val.{to_z, of_z}
use Rattle.srs.proofs.CallerLemmas.{list_all_each}
use Rattle.lane_board.specs.Field.{Field, empty_field, rows_below}
use Rattle.srs.specs.Cells.{Cell}
use Rattle.srs.specs.SameCells.{cell_eq, is_among}
use Rattle.empty_cells.specs.Empties.{has_cell_at}
use Rattle.empty_cells.specs.SentCells.{sent_cells, sent_up}
use Rattle.empty_cells.proofs.EmptiesLemmas.{cell_of}
use Rattle.empty_cells.proofs.SentLemmas.{among_sent}
use Rattle.empty_cells.proofs.empties.Empties.sent.Goals as goal

-- a cell of the columns and rows
record IsNear (cell : Cell) : Type 0 where
  pub x : ℕ
  pub y : ℕ
  pub is : cell ≡ (pos x, pos y)
  pub column : x < 10
  pub row : y < 8

near : (cells : List Cell) (i : ℕ) → list_all (has_cell_at (rows_below 8)) cells ≡ true → i < length cells → IsNear (get_or cells i (pos 0, pos 0))
unfolding rows_below
near cells i inside within =
    let at = cell_of (rows_below 8) (get_or cells i (pos 0, pos 0)) (list_all_each (has_cell_at (rows_below 8)) cells i (pos 0, pos 0) inside within) in
    let parts = and_parts (nat_lt at.x 10) (nat_lt at.y 8) at.has in
    record { x = at.x; y = at.y; is = at.is; column = ltb-true at.x 10 parts.0; row = ltb-true at.y 8 parts.1 }

same_number : (x a : ℕ) → (x == a) ≡ int_eq (pos x) (pos a)
same_number x a = same_from_both _ _ (λ e. (Decides-int_eq (pos x) (pos a)).1 (ap pos (eqb-true x a e))) (λ e. eq-eqb x a (ap nat_abs ((Decides-int_eq (pos x) (pos a)).0 e)))

sent_one : (rows : List ℕ) (cell : Cell) (x y a b : ℕ) → cell ≡ (pos x, pos y) → (x == a && get_or rows y 0 == b) ≡ cell_eq (sent_up rows cell) (pos a, pos b)
unfolding sent_up
sent_one rows cell x y a b is = ap₂ ◌&&◌ (same_number x a) (same_number (get_or rows y 0) b) ∙ ap (λ (cell : Cell). cell_eq (sent_up rows cell) (pos a, pos b)) (sym is)

pub loop-x-init : goal.loop-x-init
unfolding is_among empty_field
loop-x-init c = λ a b. ap (λ (E : Field). E a b) c.empty-sent.ensures

pub overflow_cast-x : goal.overflow_cast-x
overflow_cast-x c =
    let cell = near c.cells-x-items.result c.loop-x.x-index (subst (λ cells. list_all (has_cell_at (rows_below 8)) cells ≡ true) (sym c.cells-x-items.ensures) c.requires.inside) (omega (arith, c.loop-x-test.true, c.cells-x-items.type_inv)) in
    let is : (get_or c.cells-x-items.result c.loop-x.x-index (pos 0, pos 0)).0 ≡ pos cell.x = ap (λ (c : Cell). c.0) cell.is in
    omega (arith, ints, cell.column, is)

pub overflow_cast-y : goal.overflow_cast-y
overflow_cast-y c =
    let cell = near c.cells-x-items.result c.loop-x.x-index (subst (λ cells. list_all (has_cell_at (rows_below 8)) cells ≡ true) (sym c.cells-x-items.ensures) c.requires.inside) (omega (arith, c.loop-x-test.true, c.cells-x-items.type_inv)) in
    let is : (get_or c.cells-x-items.result c.loop-x.x-index (pos 0, pos 0)).1 ≡ pos cell.y = ap (λ (c : Cell). c.1) cell.is in
    omega (arith, ints, cell.row, is)

pub bounds-rows-y : goal.bounds-rows-y
bounds-rows-y c =
    search (rules, (near c.cells-x-items.result c.loop-x.x-index (subst (λ cells. list_all (has_cell_at (rows_below 8)) cells ≡ true) (sym c.cells-x-items.ensures) c.requires.inside)))

pub with_cell-sent-requires-clause-column : goal.with_cell-sent-requires-clause-column
with_cell-sent-requires-clause-column c =
    search (rules, (near c.cells-x-items.result c.loop-x.x-index (subst (λ cells. list_all (has_cell_at (rows_below 8)) cells ≡ true) (sym c.cells-x-items.ensures) c.requires.inside)))

pub loop-x-preserved : goal.loop-x-preserved
loop-x-preserved c = λ a b.
    let cells = c.cells-x-items.result in
    let rows = c.args.rows.now in
    let i = c.loop-x.x-index in
    let item = get_or cells i (pos 0, pos 0) in
    let within : i < length cells = omega (arith, c.loop-x-test.true, c.cells-x-items.type_inv) in
    let cell = near cells i (subst (λ cells. list_all (has_cell_at (rows_below 8)) cells ≡ true) (sym c.cells-x-items.ensures) c.requires.inside) within in
    let is_x : item.0 ≡ pos cell.x = ap (λ (c : Cell). c.0) cell.is in
    let is_y : item.1 ≡ pos cell.y = ap (λ (c : Cell). c.1) cell.is in
    let near_x = cell.column in
    let near_y = cell.row in
    let x : nat_abs (to_z w8 (of_z w8 item.0)) ≡ cell.x = omega (arith, ints) in
    let y : nat_abs (to_z w8 (of_z w8 item.1)) ≡ cell.y = omega (arith, ints) in
    c.with_cell-sent.ensures a b
    ∙ ap₂ ◌||◌ (c.loop-x.invariant a b ∙ among_sent (sent_up rows) (take i cells) (pos a, pos b))
    ((λ j. x j == a && get_or rows (y j) 0 == b) ∙ sent_one rows item cell.x cell.y a b cell.is)
    ∙ sym (list_any_more (λ c. cell_eq (sent_up rows c) (pos a, pos b)) cells i (pos 0, pos 0) within)
    ∙ sym (among_sent (sent_up rows) (take (i + 1) cells) (pos a, pos b))

pub returns : goal.returns
unfolding sent_cells
returns c = search (rules, fun_ext, take_all)
