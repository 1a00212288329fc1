-- A tiling with one part more or fewer, and the test of rows that rise.
use Rattle.std.proofs.Common.{◌≡◌, ℕ, suc, ◌+◌, ◌-◌, ◌≤◌, true, false, not, cond, ◌&&◌, ◌==◌, List, [], ◌∷◌, length, refl, ap, ◌∙◌, inl, inr, arith, rules}
use Rattle.std.specs.Prelude.{◌↔◌, All}
use Rattle.std.specs.List.{list_all}
use Rattle.std.proofs.lemmas.Bool.{cases_Bool, cond-true, cond-false, true_from_ne_false, and_right, eq-eqb, not_from_true}
use Rattle.std.proofs.lemmas.List.Elements.{All-cons, All-head, All-tail}
use Rattle.std.proofs.lemmas.List.Sums.{sum_by-cons}
use Rattle.std.proofs.Math.Bool.{and-true}
use Rattle.srs.specs.declared.piece.Piece.{Piece}
use Rattle.srs.specs.Piece.{piece_code}
use Rattle.srs.specs.Cells.{Cell}
use Rattle.srs.specs.SameCells.{is_among}
use Rattle.srs.proofs.CallerLemmas.{has_cell-head, is_among-all, list_all-from_is_among}
use Rattle.lane_board.specs.Field.{Field, intersection, rows_below}
use Rattle.well.specs.Lock.{with_cells}
use Rattle.prune.specs.Tiling.{Part, IsGeneralized, is_empty_below, covers, parts_of, Tiling, Supply}
use Rattle.prune.specs.Laws.{with_one}
use Rattle.prune.specs.OnePart.{less_one}
use Rattle.prune.proofs.CellCounts.{count_in, count_in-some, count_in-none}
use Rattle.prune.proofs.PartLemmas.{covers-cons, part_length, part_once}

-- what is empty once some cells are filled
pub is_empty-with_cells : (F : Field) (cells : List Cell) (rows : ℕ) (cell : Cell) → is_empty_below (with_cells F cells) rows cell ≡ (is_empty_below F rows cell && not (is_among cells cell))
unfolding is_empty_below with_cells
is_empty-with_cells F cells rows cell = search rules

-- how many parts of a kind there are with one part more
pub parts_of-cons : (part : Part) (parts : List Part) (piece : Piece) → parts_of (part ∷ parts) piece ≡ cond (piece_code part.piece == piece_code piece) 1 0 + parts_of parts piece
parts_of-cons part parts piece = sum_by-cons (λ part. cond (piece_code part.piece == piece_code piece) 1 0) part parts

-- a tiling with these parts
pub record TilingOf (F : Field) (rows : ℕ) (supply : Supply) (parts : List Part) : Type 0 where
  pub tiling : Tiling F rows supply
  pub parts_are : tiling.parts ≡ parts

-- a generalized piece on empty cells and a tiling of what it leaves are a tiling with one more piece
pub one_part_more : (F : Field) (rows : ℕ) (part : Part) (supply : Supply) → IsGeneralized part → list_all (is_empty_below F rows) part.cells ≡ true →
    (t : Tiling (with_cells F part.cells) rows supply) → TilingOf F rows (with_one supply part.piece) (part ∷ t.parts)
unfolding with_one
one_part_more F rows part supply is empty t = record {
  tiling = record {
    parts = part ∷ t.parts;
    generalized = All-cons IsGeneralized part t.parts is t.generalized;
    covered = λ cell. covers-cons part t.parts cell ∙ covered cell (t.covered cell ∙ ap (λ b. cond b 1 0) (is_empty-with_cells F part.cells rows cell));
    supplied = λ piece. supplied piece (t.supplied piece);
  };
  parts_are = refl;
}
  where
    covered : (cell : Cell) → covers t.parts cell ≡ cond (is_empty_below F rows cell && not (is_among part.cells cell)) 1 0 → count_in part.cells cell + covers t.parts cell ≡ cond (is_empty_below F rows cell) 1 0
    covered cell rest =
        search (rules, cases_Bool, is_among-all, part_once, count_in-some, cond-false, and_right, not_from_true, cond-true, and-true, count_in-none)

    supplied : (piece : Piece) → parts_of t.parts piece ≤ supply piece → parts_of (part ∷ t.parts) piece ≤ cond (piece_code part.piece == piece_code piece) (suc (supply piece)) (supply piece)
    supplied piece enough = search (rules, cases_Bool, (parts_of-cons part t.parts), cond-true, cond-false)

pub with_part : (F : Field) (rows : ℕ) (part : Part) (supply : Supply) → IsGeneralized part → list_all (is_empty_below F rows) part.cells ≡ true →
    Tiling (with_cells F part.cells) rows supply → Tiling F rows (with_one supply part.piece)
with_part F rows part supply is empty t = (one_part_more F rows part supply is empty t).tiling

-- where no cell is empty there is no part
pub no_parts : (F : Field) (rows : ℕ) (supply : Supply) → ((cell : Cell) → is_empty_below F rows cell ≡ false) → (t : Tiling F rows supply) → t.parts ≡ []
no_parts F rows supply full t = none t.parts t.generalized (λ cell. t.covered cell ∙ cond-false {A = ℕ} _ 1 0 (full cell))
  where
    some_cell : (cells : List Cell) → length cells ≡ 4 → (cell : Cell) × (is_among cells cell ≡ true)
    some_cell [] four = absurd (omega (arith, four))
    some_cell (cell ∷ cells) four = (cell, has_cell-head cell cells)

    none : (parts : List Part) → All IsGeneralized parts → ((cell : Cell) → covers parts cell ≡ 0) → parts ≡ []
    none [] generalized uncovered = refl
    none (part ∷ parts) generalized uncovered =
        let cell = some_cell part.cells (part_length part (All-head IsGeneralized part parts generalized)) in
        absurd (omega (arith, uncovered cell.0, covers-cons part parts cell.0, count_in-some part.cells cell.0 cell.1))

-- a part that has the cell, and the other parts
record Split (parts : List Part) (cell : Cell) : Type 1 where
  pub part : Part
  pub rest : List Part
  pub has : is_among part.cells cell ≡ true
  pub back : (P : Part → Type 0) → All P parts → P part × All P rest
  pub covered : (c : Cell) → covers parts c ≡ count_in part.cells c + covers rest c
  pub counted : (piece : Piece) → parts_of parts piece ≡ cond (piece_code part.piece == piece_code piece) 1 0 + parts_of rest piece
  pub others : (P : Part → Type 0) → P part → All P rest → All P parts

split : (parts : List Part) (cell : Cell) → 1 ≤ covers parts cell → Split parts cell
unfolding covers
split [] cell some = absurd (omega arith)
split (part ∷ parts) cell some = elim (cases_Bool (is_among part.cells cell)) [
  | inl has ↦ record {
    part = part;
    rest = parts;
    has = has;
    back = λ P all. (All-head P part parts all, All-tail P part parts all);
    covered = λ c. covers-cons part parts c;
    counted = λ piece. parts_of-cons part parts piece;
    others = λ P here all. All-cons P part parts here all;
  }
  | inr none ↦
      let old = split parts cell (omega (arith, some, covers-cons part parts cell, count_in-none part.cells cell none)) in
      record {
        part = old.part;
        rest = part ∷ old.rest;
        has = old.has;
        back = λ P all. let below = old.back P (All-tail P part parts all) in (below.0, All-cons P part old.rest (All-head P part parts all) below.1);
        covered = λ c. omega (arith, covers-cons part parts c, covers-cons part old.rest c, old.covered c);
        counted = λ piece. omega (arith, parts_of-cons part parts piece, parts_of-cons part old.rest piece, old.counted piece);
        others = λ P here all. All-cons P part parts (All-head P part old.rest all) (old.others P here (All-tail P part old.rest all));
      }
]

-- the part of a tiling that has a cell, and the tiling that is left without it
pub record TakenPart (F : Field) (rows : ℕ) (supply : Supply) (cell : Cell) (parts : List Part) : Type 1 where
  pub part : Part
  pub generalized : IsGeneralized part
  pub has : is_among part.cells cell ≡ true
  pub empty : list_all (is_empty_below F rows) part.cells ≡ true
  pub some : 1 ≤ supply part.piece
  pub rest : Tiling (with_cells F part.cells) rows (less_one supply part.piece)
  pub others : (P : Part → Type 0) → P part → All P rest.parts → All P parts
  pub back : (P : Part → Type 0) → All P parts → P part × All P rest.parts

-- each empty cell stands in a part, and without it there is a tiling of what it leaves with one piece fewer
pub taken_part : (F : Field) (rows : ℕ) (supply : Supply) (cell : Cell) → is_empty_below F rows cell ≡ true → (t : Tiling F rows supply) → TakenPart F rows supply cell t.parts
unfolding less_one
taken_part F rows supply cell here t = taken (split t.parts cell (omega (arith, t.covered cell, cond-true {A = ℕ} _ 1 0 here)))
  where
    taken : Split t.parts cell → TakenPart F rows supply cell t.parts
    taken s = record {
      part = s.part;
      generalized = (s.back IsGeneralized t.generalized).0;
      has = s.has;
      empty = list_all-from_is_among (is_empty_below F rows) s.part.cells empty;
      some = omega (arith, s.counted s.part.piece, t.supplied s.part.piece, cond-true {A = ℕ} _ 1 0 (eq-eqb (piece_code s.part.piece) (piece_code s.part.piece) refl));
      rest = search (rules, is_empty-with_cells, covered, supplied);
      others = s.others;
      back = s.back;
    }
      where
        empty : (c : Cell) → is_among s.part.cells c ≡ true → is_empty_below F rows c ≡ true
        empty c has = true_from_ne_false _ (λ filled. omega (arith, s.covered c, count_in-some s.part.cells c has, t.covered c, cond-false {A = ℕ} _ 1 0 filled))

        covered : (c : Cell) → covers s.rest c ≡ cond (is_empty_below F rows c && not (is_among s.part.cells c)) 1 0
        covered c =
            search (rules, cases_Bool, count_in-some, cond-true, cond-false, and_right, not_from_true, and-true, count_in-none, empty)

        supplied : (piece : Piece) → parts_of t.parts piece ≤ supply piece → parts_of s.rest piece ≤ cond (piece_code s.part.piece == piece_code piece) (supply piece - 1) (supply piece)
        supplied piece enough = search (rules, cases_Bool, cond-true, cond-false)

-- fields with the same empty cells below their rows have the same tilings there
pub same_tiling : (F G : Field) (n m : ℕ) (supply : Supply) → ((cell : Cell) → is_empty_below F n cell ≡ is_empty_below G m cell) → Tiling F n supply → Tiling G m supply
same_tiling F G n m supply same t = search rules

is_empty-below : (F : Field) (rows : ℕ) (cell : Cell) → is_empty_below F rows cell ≡ is_empty_below (intersection F (rows_below rows)) rows cell
unfolding is_empty_below intersection
is_empty-below F rows cell = search rules

-- cells at or above the rows don't count
pub tiling-intersection : (F : Field) (rows : ℕ) (supply : Supply) → Tiling F rows supply ↔ Tiling (intersection F (rows_below rows)) rows supply
tiling-intersection F rows supply = search (rules, same_tiling, is_empty-below)
