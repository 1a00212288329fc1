-- A tiling stays one where its rows are sent to others, in their order.
use Rattle.std.proofs.Common.{◌≡◌, ℕ, ◌<◌, true, false, cond, ◌==◌, List, [], ◌∷◌, ◌++◌, map, ℤ, pos, negsuc, ◌+ℤ◌, refl, sym, ap, subst, ◌∙◌, inl, inr, rules}
use Rattle.std.specs.Prelude.{All}
use Rattle.std.specs.List.{list_all}
use Rattle.std.proofs.lemmas.Bool.{cases_Bool, cond-true, cond-false, false_from_ne_true, true≢false, and_parts, cases_order}
use Rattle.std.proofs.lemmas.List.Elements.{All-nil, All-cons, All-head, All-tail}
use Rattle.std.proofs.lemmas.List.Folds.{list_all-append}
use Rattle.std.proofs.lemmas.List.{map-append}
use Rattle.srs.specs.declared.piece.Piece.{Piece}
use Rattle.srs.specs.Piece.{piece_code}
use Rattle.srs.specs.Cells.{Cell, shape}
use Rattle.srs.specs.SameCells.{cell_eq}
use Rattle.srs.proofs.CallerLemmas.{cell_eq-decides, is_among-all}
use Rattle.lane_board.specs.Field.{Field}
use Rattle.prune.specs.Tiling.{Part, sent, IsGeneralized, is_empty_below, covers, parts_of, Tiling, Supply}
use Rattle.prune.proofs.CellCounts.{count_in, count-agree, count-none, count-map, has_cell-map}
use Rattle.prune.proofs.EmptyCells.{EmptyCell, empty_cell, is_empty_at}
use Rattle.prune.proofs.PartLemmas.{cells_in, covers-count, cells_empty}

-- a row, a cell and a part where row y becomes row f y
unfoldable pub row_to : (ℕ → ℕ) → ℤ → ℤ
row_to f (pos y) = pos (f y)
row_to f (negsuc y) = negsuc y

unfoldable pub cell_to : (ℕ → ℕ) → Cell → Cell
cell_to f cell = (cell.0, row_to f cell.1)

abbrev pub part_to : (ℕ → ℕ) → Part → Part
part_to f part = record { piece = part.piece; cells = map (cell_to f) part.cells }

abbrev parts_to : (ℕ → ℕ) → List Part → List Part
parts_to f parts = map (part_to f) parts

-- an empty cell (x, z) of G comes from an empty cell (x, y) of F
pub record Before (F : Field) (rows : ℕ) (f : ℕ → ℕ) (x z : ℕ) : Type 0 where
  pub y : ℕ
  pub below : y < rows
  pub empty : F x y ≡ false
  pub sent : f y ≡ z

-- The rows of F below `rows` that have an empty cell are sent, in their order, to rows of G below `left` with the same empty
-- cells, and each empty cell there comes from one of F.
pub record SendsRows (F : Field) (rows : ℕ) (G : Field) (left : ℕ) (f : ℕ → ℕ) : Type 0 where
  pub rises : (x v y z : ℕ) → x < 10 → v < 10 → y < rows → z < rows → F x y ≡ false → F v z ≡ false → y < z → f y < f z
  pub below : (x y : ℕ) → x < 10 → y < rows → F x y ≡ false → f y < left
  pub empty : (x y : ℕ) → x < 10 → y < rows → F x y ≡ false → G x (f y) ≡ false
  pub before : (x z : ℕ) → x < 10 → z < left → G x z ≡ false → Before F rows f x z

cells_in-to : (f : ℕ → ℕ) (parts : List Part) → cells_in (parts_to f parts) ≡ map (cell_to f) (cells_in parts)
cells_in-to f [] = refl
cells_in-to f (part ∷ parts) = ap (λ cells. map (cell_to f) part.cells ++ cells) (cells_in-to f parts) ∙ sym (map-append (cell_to f) part.cells (cells_in parts))

parts_of-to : (f : ℕ → ℕ) (parts : List Part) (piece : Piece) → parts_of (parts_to f parts) piece ≡ parts_of parts piece
parts_of-to f parts piece = count-map (λ part. piece_code part.piece == piece_code piece) (part_to f) parts

-- the rows of a generalized piece stay in their order
sent_to : (f : ℕ → ℕ) (move : ℤ) (row : ℤ → ℕ) (cells : List Cell) → map (cell_to f) (map (sent move row) cells) ≡ map (sent move (λ z. f (row z))) cells
unfolding sent cell_to row_to
sent_to f move row [] = refl
sent_to f move row (c ∷ cs) = ap (λ rest. (c.0 +ℤ move, pos (f (row c.1))) ∷ rest) (sent_to f move row cs)

module _ (F : Field) (rows : ℕ) (G : Field) (left : ℕ) (f : ℕ → ℕ) (sends : SendsRows F rows G left f) where
  pub generalized_to : (part : Part) → list_all (is_empty_below F rows) part.cells ≡ true → IsGeneralized part → IsGeneralized (part_to f part)
  unfolding sent
  generalized_to part empty is =
      search (rules, sent_to, is.row, (empty_cell F rows), (is_among-all (is_empty_below F rows) part.cells), (has_cell-map (sent is.move is.row) (shape part.piece is.rotation)))

  all_generalized_to : (parts : List Part) → list_all (is_empty_below F rows) (cells_in parts) ≡ true → All IsGeneralized parts → All IsGeneralized (parts_to f parts)
  all_generalized_to [] empty all = All-nil IsGeneralized
  all_generalized_to (part ∷ parts) empty all =
      let both = and_parts (list_all (is_empty_below F rows) part.cells) (list_all (is_empty_below F rows) (cells_in parts)) (sym (list_all-append (is_empty_below F rows) part.cells (cells_in parts)) ∙ empty) in
      All-cons IsGeneralized (part_to f part) (parts_to f parts) (generalized_to part both.0 (All-head IsGeneralized part parts all)) (all_generalized_to parts both.1 (All-tail IsGeneralized part parts all))

  -- an empty cell becomes one
  pub empty_to : (cell : Cell) → is_empty_below F rows cell ≡ true → is_empty_below G left (cell_to f cell) ≡ true
  unfolding cell_to row_to
  empty_to cell here =
      let e = empty_cell F rows cell here in
      subst (λ c. is_empty_below G left (cell_to f c) ≡ true) (sym e.is) (is_empty_at G left e.x (f e.y) e.in_columns (sends.below e.x e.y e.in_columns e.below e.empty) (sends.empty e.x e.y e.in_columns e.below e.empty))

  -- and two empty cells stay two
  same_to : (x y : ℕ) → x < 10 → y < rows → F x y ≡ false → (cell : Cell) → is_empty_below F rows cell ≡ true → cell_eq (cell_to f cell) (pos x, pos (f y)) ≡ cell_eq cell (pos x, pos y)
  unfolding cell_to row_to
  same_to x y column below empty cell here =
      search (rules, (cell_eq-decides cell (pos x, pos y)), (empty_cell F rows cell here), (cell_eq-decides (cell_to f cell) (pos x, pos (f y))), cases_order)

  covered_to : (parts : List Part) → ((cell : Cell) → covers parts cell ≡ cond (is_empty_below F rows cell) 1 0) → (cell : Cell) → covers (parts_to f parts) cell ≡ cond (is_empty_below G left cell) 1 0
  unfolding count_in
  covered_to parts covered cell = elim (cases_Bool (is_empty_below G left cell)) [
    | inl here ↦ at_empty (empty_cell G left cell here) here
    | inr none ↦
        covers-count (parts_to f parts) cell ∙ ap (λ cells. count_in cells cell) (cells_in-to f parts) ∙ count-map (λ c. cell_eq c cell) (cell_to f) (cells_in parts)
        ∙ count-none (λ c. cell_eq (cell_to f c) cell) (is_empty_below F rows) (cells_in parts) (cells_empty F rows parts covered) (λ c empty. false_from_ne_true _ (λ same.
        true≢false (sym (empty_to c empty) ∙ ap (is_empty_below G left) ((cell_eq-decides (cell_to f c) cell).0 same) ∙ none)))
        ∙ sym (cond-false {A = ℕ} (is_empty_below G left cell) 1 0 none)
  ]
    where
      at_empty : EmptyCell G left cell → is_empty_below G left cell ≡ true → covers (parts_to f parts) cell ≡ cond (is_empty_below G left cell) 1 0
      at_empty e here = search (rules, (covers-count (parts_to f parts) cell), (cells_in-to f parts), (count-map (λ c. cell_eq c cell) (cell_to f) (cells_in parts)), count-agree, (cells_empty F rows parts covered), same_to, (covers-count parts), cond-true, (is_empty_at F rows))

  pub tiling_to : (supply : Supply) → Tiling F rows supply → Tiling G left supply
  tiling_to supply t =
      search (rules, (all_generalized_to t.parts (cells_empty F rows t.parts t.covered) t.generalized), (covered_to t.parts t.covered), t.supplied, (parts_of-to f t.parts))
