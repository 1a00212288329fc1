-- A tiling that is moved to the side keeps its rows.
use Rattle.std.proofs.Common.{◌≡◌, ◌↔◌, ℕ, ◌+◌, ◌<◌, true, if◌then◌else◌, ◌&&◌, ◌||◌, List, [], ◌∷◌, map, ℤ, pos, negsuc, ◌+ℤ◌, neg_ℤ, refl, sym, ap, subst, ◌∙◌, inl, inr, arith, rules}
use Rattle.std.specs.Prelude.{All, count_by}
use Rattle.std.specs.Ordering.{int_eq}
use Rattle.std.proofs.lemmas.Bool.{both_ways, cases_Bool, cond-true, cond-false, true_from_ne_false}
use Rattle.std.proofs.lemmas.Bool.Decides.{Decides-int_eq}
use Rattle.std.proofs.lemmas.Int.{ints}
use Rattle.std.proofs.lemmas.List.Elements.{All-cons, All-head, All-nil, All-tail, All-weaker}
use Rattle.std.proofs.lemmas.List.Sums.{sum_by-append, sum_by-cons}
use Rattle.lane_board.specs.Field.{Field}
use Rattle.lane_board.proofs.CallerLemmas.{same_from_both}
use Rattle.srs.specs.Cells.{Cell}
use Rattle.srs.specs.SameCells.{cell_eq, is_among}
use Rattle.prune.specs.Tiling.{Part, Supply, Tiling, covers, is_empty_below}
use Rattle.empty_cells.proofs.MovedTilings.{MovedTo, moved_cell, moved_part, no_column}

-- a part has a cell in a row
pub record InRow (part : Part) (row : ℕ) : Type 0 where
  pub column : ℕ
  pub there : is_among part.cells (pos column, pos row) ≡ true

-- two parts have cells in the same rows
pub record SameRows (a b : Part) : Type 0 where
  pub both : (row : ℕ) → InRow a row ↔ InRow b row

-- a part that has a cell covers it
count_some : (cells : List Cell) (cell : Cell) → is_among cells cell ≡ true → 0 < count_by (λ c. cell_eq c cell) cells
unfolding is_among
count_some [] cell has = absurd (both_ways _ refl has)
count_some (c ∷ cells) cell has = elim (cases_Bool (cell_eq c cell)) [
  | inl here ↦ omega (arith, sum_by-cons (λ c. if cell_eq c cell then 1 else 0) c cells, cond-true {A = ℕ} _ 1 0 here)
  | inr other ↦ omega (arith, sum_by-cons (λ c. if cell_eq c cell then 1 else 0) c cells, count_some cells cell (ap (λ b. b || is_among cells cell) (sym other) ∙ has))
]

covers_more : (part : Part) (parts : List Part) (cell : Cell) → covers (part ∷ parts) cell ≡ count_by (λ c. cell_eq c cell) part.cells + covers parts cell
unfolding covers
covers_more part parts cell = search (rules, sum_by-append)

among_covered : (parts : List Part) → All (λ part. (cell : Cell) → is_among part.cells cell ≡ true → 0 < covers parts cell) parts
among_covered [] = All-nil (λ part. (cell : Cell) → is_among part.cells cell ≡ true → 0 < covers [] cell)
among_covered (part ∷ parts) = All-cons (λ p. (cell : Cell) → is_among p.cells cell ≡ true → 0 < covers (part ∷ parts) cell) part parts
    (λ cell has. omega (arith, covers_more part parts cell, count_some part.cells cell has))
    (All-weaker (λ p. (cell : Cell) → is_among p.cells cell ≡ true → 0 < covers parts cell) (λ p. (cell : Cell) → is_among p.cells cell ≡ true → 0 < covers (part ∷ parts) cell)
    (λ p some cell has. omega (arith, covers_more part parts cell, some cell has)) parts (among_covered parts))

-- the cells of a part are empty
abbrev LiesWithin : Field → Part → Type 0
LiesWithin F part = (cell : Cell) → is_among part.cells cell ≡ true → is_empty_below F 8 cell ≡ true

parts_within : (F : Field) (supply : Supply) (t : Tiling F 8 supply) → All (LiesWithin F) t.parts
parts_within F supply t = All-weaker (λ p. (cell : Cell) → is_among p.cells cell ≡ true → 0 < covers t.parts cell) (LiesWithin F)
    (λ p some cell has. true_from_ne_false _ (λ filled. omega (arith, some cell has, t.covered cell, cond-false {A = ℕ} _ 1 0 filled))) t.parts (among_covered t.parts)

column_of : (F : Field) (z : ℤ) (row : ℕ) → is_empty_below F 8 (z, pos row) ≡ true → (a : ℕ) × (z ≡ pos a)
column_of F (pos a) row empty = (a, refl)
column_of F (negsuc a) row empty = absurd (both_ways _ (no_column F a row) empty)

-- what is among the cells that are moved
moved_there : (k : ℤ) (c cell : Cell) → cell_eq (moved_cell k c) (moved_cell k cell) ≡ cell_eq c cell
unfolding moved_cell
moved_there k c cell = ap (λ b. b && int_eq c.1 cell.1) (same_from_both (int_eq (c.0 +ℤ k) (cell.0 +ℤ k)) (int_eq c.0 cell.0)
    (λ e. let same : c.0 +ℤ k ≡ cell.0 +ℤ k = (Decides-int_eq _ _).0 e in (Decides-int_eq c.0 cell.0).1 (omega (arith, ints, same)))
    (λ e. let same : c.0 ≡ cell.0 = (Decides-int_eq _ _).0 e in (Decides-int_eq (c.0 +ℤ k) (cell.0 +ℤ k)).1 (omega (arith, ints, same))))

among_moved : (k : ℤ) (cells : List Cell) (cell : Cell) → is_among (map (moved_cell k) cells) (moved_cell k cell) ≡ is_among cells cell
unfolding is_among
among_moved k [] cell = refl
among_moved k (c ∷ cells) cell = search (rules, moved_there, (among_moved k cells cell))

module _ (F G : Field) (k : ℤ) (part : Part) (here : LiesWithin G part) (there : LiesWithin F (moved_part k part)) where
  row_to : (row : ℕ) → InRow part row → InRow (moved_part k part) row
  unfolding moved_cell moved_part
  row_to row r =
      let has = among_moved k part.cells (pos r.column, pos row) ∙ r.there in
      let at = column_of F (pos r.column +ℤ k) row (there (pos r.column +ℤ k, pos row) has) in
      record { column = at.0; there = subst (λ z. is_among (map (moved_cell k) part.cells) (z, pos row) ≡ true) at.1 has }

  row_from : (row : ℕ) → InRow (moved_part k part) row → InRow part row
  unfolding moved_cell moved_part
  row_from row r =
      let same : (pos r.column +ℤ neg_ℤ k) +ℤ k ≡ pos r.column = omega (arith, ints) in
      let has = sym (among_moved k part.cells (pos r.column +ℤ neg_ℤ k, pos row)) ∙ ap (λ z. is_among (map (moved_cell k) part.cells) (z, pos row)) same ∙ r.there in
      let at = column_of G (pos r.column +ℤ neg_ℤ k) row (here (pos r.column +ℤ neg_ℤ k, pos row) has) in
      record { column = at.0; there = subst (λ z. is_among part.cells (z, pos row) ≡ true) at.1 has }

each_same : (F G : Field) (k : ℤ) (parts : List Part) → All (LiesWithin G) parts → All (LiesWithin F) (map (moved_part k) parts) → All (λ part. SameRows part (moved_part k part)) parts
each_same F G k [] here there = All-nil (λ part. SameRows part (moved_part k part))
each_same F G k (part ∷ parts) here there =
    let one = All-head (LiesWithin G) part parts here in
    let moved = All-head (LiesWithin F) (moved_part k part) (map (moved_part k) parts) there in
    All-cons (λ part. SameRows part (moved_part k part)) part parts (record { both = λ row. (row_to F G k part one moved row, row_from F G k part one moved row) })
    (each_same F G k parts (All-tail (LiesWithin G) part parts here) (All-tail (LiesWithin F) (moved_part k part) (map (moved_part k) parts) there))

pub same_rows : (F G : Field) (supply : Supply) (t : Tiling G 8 supply) (m : MovedTo F supply t.parts) → All (λ part. SameRows part (moved_part m.move part)) t.parts
same_rows F G supply t m = each_same F G m.move t.parts (parts_within G supply t) (subst (All (LiesWithin F)) m.are (parts_within F supply m.tiling))
