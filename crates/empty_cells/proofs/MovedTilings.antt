-- A set and the same with its columns counted from another one: a tiling of one, moved, is a tiling of the other.
use Rattle.std.proofs.Common.{◌≡◌, ◌↔◌, ℕ, ◌<◌, false, cond, ◌&&◌, List, [], ◌∷◌, map, ℤ, pos, negsuc, ◌+ℤ◌, neg_ℤ, refl, sym, ap, ◌∙◌, arith, rules}
use Rattle.std.proofs.Math.Path.{fun_ext}
use Rattle.std.specs.Prelude.{All, count_by}
use Rattle.std.specs.List.{flat_map}
use Rattle.std.specs.Ordering.{int_eq}
use Rattle.std.proofs.lemmas.Bool.{cases_lt}
use Rattle.std.proofs.lemmas.Bool.Decides.{Decides-int_eq}
use Rattle.std.proofs.lemmas.Int.{ints}
use Rattle.std.proofs.lemmas.List.{map-append}
use Rattle.std.proofs.lemmas.List.Concat.{flat_map-cons}
use Rattle.std.proofs.lemmas.List.Elements.{All-cons, All-head, All-nil, All-tail}
use Rattle.std.proofs.lemmas.List.Sums.{sum_by-cons}
use Rattle.lane_board.specs.Field.{Field}
use Rattle.lane_board.proofs.CallerLemmas.{same_from_both}
use Rattle.srs.specs.Cells.{Cell}
use Rattle.srs.specs.SameCells.{cell_eq}
use Rattle.prune.specs.Tiling.{IsGeneralized, Part, Supply, Tiling, covers, is_empty_below, parts_of, sent}
use Rattle.empty_cells.specs.Empties.{all_but}
use Rattle.empty_cells.specs.Spans.{IsFirst, from_column}
use Rattle.empty_cells.proofs.FillLemmas.{empty_is}
use Rattle.empty_cells.proofs.StackLemmas.{IsSmall}

-- a cell, and a part, so many columns further to the right
unfoldable pub moved_cell : ℤ → Cell → Cell
moved_cell k cell = (cell.0 +ℤ k, cell.1)

unfoldable pub moved_part : ℤ → Part → Part
moved_part k part = record { piece = part.piece; cells = map (moved_cell k) part.cells }

-- a part that is moved is a generalized piece
moved_sent : (k move : ℤ) (row : ℤ → ℕ) (cells : List Cell) → map (moved_cell k) (map (sent move row) cells) ≡ map (sent (move +ℤ k) row) cells
unfolding moved_cell sent
moved_sent k move row [] = refl
moved_sent k move row (cell ∷ cells) = search (rules, (moved_sent k move row cells))

moved_generalized : (k : ℤ) (part : Part) → IsGeneralized part → IsGeneralized (moved_part k part)
unfolding moved_part
moved_generalized k part is = search (rules, moved_sent)

all_generalized : (k : ℤ) (parts : List Part) → All IsGeneralized parts → All IsGeneralized (map (moved_part k) parts)
all_generalized k [] all = All-nil IsGeneralized
all_generalized k (part ∷ parts) all = All-cons IsGeneralized (moved_part k part) (map (moved_part k) parts)
    (moved_generalized k part (All-head IsGeneralized part parts all))
    (all_generalized k parts (All-tail IsGeneralized part parts all))

-- it covers a cell where the part covers the cell that far to the left
moved_eq : (k : ℤ) (c cell : Cell) → cell_eq (moved_cell (neg_ℤ k) c) cell ≡ cell_eq c (moved_cell k cell)
unfolding moved_cell
moved_eq k c cell = ap (λ b. b && int_eq c.1 cell.1) (same_from_both (int_eq (c.0 +ℤ neg_ℤ k) cell.0) (int_eq c.0 (cell.0 +ℤ k))
    (λ e. let same : c.0 +ℤ neg_ℤ k ≡ cell.0 = (Decides-int_eq _ _).0 e in (Decides-int_eq c.0 (cell.0 +ℤ k)).1 (omega (arith, ints, same)))
    (λ e. let same : c.0 ≡ cell.0 +ℤ k = (Decides-int_eq _ _).0 e in (Decides-int_eq (c.0 +ℤ neg_ℤ k) cell.0).1 (omega (arith, ints, same))))

count_moved : (k : ℤ) (cell : Cell) (cells : List Cell) → count_by (λ c. cell_eq c cell) (map (moved_cell (neg_ℤ k)) cells) ≡ count_by (λ c. cell_eq c (moved_cell k cell)) cells
count_moved k cell [] = refl
count_moved k cell (c ∷ cells) = search (rules, moved_eq, sum_by-cons, (count_moved k cell cells))

cells_moved : (k : ℤ) (parts : List Part) → flat_map (λ part. part.cells) (map (moved_part k) parts) ≡ map (moved_cell k) (flat_map (λ part. part.cells) parts)
unfolding moved_part
cells_moved k [] = refl
cells_moved k (part ∷ parts) = search (rules, flat_map-cons, map-append, (cells_moved k parts))

covers_moved : (k : ℤ) (parts : List Part) (cell : Cell) → covers (map (moved_part (neg_ℤ k)) parts) cell ≡ covers parts (moved_cell k cell)
unfolding covers
covers_moved k parts cell =
    ap (count_by (λ c. cell_eq c cell)) (cells_moved (neg_ℤ k) parts) ∙ count_moved k cell (flat_map (λ part. part.cells) parts)

kinds_moved : (k : ℤ) (parts : List Part) → parts_of (map (moved_part k) parts) ≡ parts_of parts
unfolding moved_part
kinds_moved k parts = fun_ext (λ piece. each parts piece)
  where
    each : (parts : List Part) → (piece : _) → parts_of (map (moved_part k) parts) piece ≡ parts_of parts piece
    each [] piece = refl
    each (part ∷ parts) piece = search (rules, sum_by-cons, (each parts piece))

-- where the cells of one field are those of another that far to the right, a tiling moves from there
moved_tiling : (F G : Field) (k : ℤ) (supply : Supply) → ((cell : Cell) → is_empty_below F 8 cell ≡ is_empty_below G 8 (moved_cell k cell)) → Tiling G 8 supply → Tiling F 8 supply
moved_tiling F G k supply same t = record {
  parts = map (moved_part (neg_ℤ k)) t.parts;
  generalized = all_generalized (neg_ℤ k) t.parts t.generalized;
  covered = λ cell. covers_moved k t.parts cell ∙ t.covered (moved_cell k cell) ∙ ap (λ b. cond b 1 0) (sym (same cell));
  supplied = λ piece. omega (arith, ap (λ f. f piece) (kinds_moved (neg_ℤ k) t.parts), t.supplied piece);
}

-- a tiling whose parts are these, so many columns further to the right
pub record MovedTo (F : Field) (supply : Supply) (parts : List Part) : Type 0 where
  pub move : ℤ
  pub tiling : Tiling F 8 supply
  pub are : tiling.parts ≡ map (moved_part move) parts

no_row : (F : Field) (column : ℤ) (b : ℕ) → is_empty_below F 8 (column, negsuc b) ≡ false
unfolding is_empty_below
no_row F column b = search rules

pub no_column : (F : Field) (a b : ℕ) → is_empty_below F 8 (negsuc a, pos b) ≡ false
unfolding is_empty_below
no_column F a b = refl

module _ (E : Field) (x : ℕ) (small : IsSmall 8 E) (none : (a b : ℕ) → a < x → E a b ≡ false) where
  -- the cells that are empty
  same_empty : (cell : Cell) → is_empty_below (all_but (from_column x E)) 8 cell ≡ is_empty_below (all_but E) 8 (moved_cell (pos x) cell)
  unfolding moved_cell from_column
  same_empty cell = search (rules, empty_is, no_column, cases_lt, no_row)

  same_back : (cell : Cell) → is_empty_below (all_but E) 8 cell ≡ is_empty_below (all_but (from_column x E)) 8 (moved_cell (neg_ℤ (pos x)) cell)
  unfolding moved_cell
  same_back cell = search (rules, (cell.0 +ℤ neg_ℤ (pos x)), (same_empty (moved_cell (neg_ℤ (pos x)) cell)))

  -- a tiling of one, and the same to the side
  pub moved_from : (supply : Supply) (t : Tiling (all_but E) 8 supply) → MovedTo (all_but (from_column x E)) supply t.parts
  unfolding moved_tiling
  moved_from supply t = record { move = neg_ℤ (pos x); tiling = moved_tiling (all_but (from_column x E)) (all_but E) (pos x) supply same_empty t; are = refl }

  pub moved_back : (supply : Supply) (t : Tiling (all_but (from_column x E)) 8 supply) → MovedTo (all_but E) supply t.parts
  unfolding moved_tiling
  moved_back supply t = record { move = neg_ℤ (neg_ℤ (pos x)); tiling = moved_tiling (all_but E) (all_but (from_column x E)) (neg_ℤ (pos x)) supply same_back t; are = refl }

  -- both have a tiling, or none has
  pub both_moved : (supply : Supply) → Tiling (all_but (from_column x E)) 8 supply ↔ Tiling (all_but E) 8 supply
  both_moved supply = (
    moved_tiling (all_but E) (all_but (from_column x E)) (neg_ℤ (pos x)) supply same_back,
    moved_tiling (all_but (from_column x E)) (all_but E) (pos x) supply same_empty,
  )

-- the first cell, its column counted from itself
pub first_moved : (E : Field) (x y : ℕ) → IsFirst E x y → IsFirst (from_column x E) 0 y
unfolding from_column
first_moved E x y first = search rules
