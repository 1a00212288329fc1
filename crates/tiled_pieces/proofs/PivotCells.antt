-- The cell of a placement's pivot.
use Rattle.std.proofs.Common.{◌≡◌, true, pos, refl, ap, ap₂, ◌∙◌, arith}
use Rattle.std.specs.List.{list_all}
use Rattle.std.proofs.lemmas.Int.{ints}
use Rattle.lane_board.specs.Field.{Field}
use Rattle.srs.specs.declared.piece.Piece.{Piece}
use Rattle.srs.specs.declared.rotation.Rotation.{Rotation}
use Rattle.srs.specs.declared.placement.Placement.{Placement}
use Rattle.srs.specs.Cells.{Cell, shape, moved, pivot_of, cells_of}
use Rattle.srs.specs.SameCells.{is_among}
use Rattle.srs.proofs.CallerLemmas.{is_among-all, each_state}
use Rattle.empty_cells.specs.Empties.{has_cell_at}
use Rattle.empty_cells.proofs.CallerLemmas.{CellOf, cell_of, sent_has}

each_pivot : (piece : Piece) (rotation : Rotation) → is_among (shape piece rotation) (pos 0, pos 0) ≡ true
unfolding is_among
each_pivot = each_state (λ p r. is_among (shape p r) (pos 0, pos 0)) refl

module _ (E : Field) (q : Placement) (inside : list_all (has_cell_at E) (cells_of q) ≡ true) where
  at : (c : Cell) → is_among (shape q.piece q.rotation) c ≡ true → CellOf E (moved (pivot_of q) c)
  at c listed = cell_of E (moved (pivot_of q) c) (is_among-all (has_cell_at E) (cells_of q) (moved (pivot_of q) c) inside (sent_has (moved (pivot_of q)) (shape q.piece q.rotation) c listed))

  -- the pivot is one of the cells
  pub pivot_in : E q.x q.y ≡ true
  unfolding moved
  pivot_in =
      let pivot = at (pos 0, pos 0) (each_pivot q.piece q.rotation) in
      let column : q.x ≡ pivot.x = omega (arith, ints, ap (λ (c : Cell). c.0) pivot.is) in
      let row : q.y ≡ pivot.y = omega (arith, ints, ap (λ (c : Cell). c.1) pivot.is) in
      ap₂ E column row ∙ pivot.has
