-- A piece is free exactly at the pivots from which each offset leads to an open cell.
use Rattle.std.proofs.Common.{◌≡◌, ℕ, ◌<◌, true, pos, negsuc, List, [], ◌∷◌, map, refl, sym, ap, ◌∙◌, rules}
use Rattle.std.specs.Prelude.{neg_ℤ}
use Rattle.std.specs.List.{list_all}
use Rattle.std.proofs.lemmas.Bool.{and_parts, and_from, lt-ltb, ltb-true, leb-true, le-leb, false≢true, false_from_ne_true}
use Rattle.lane_board.specs.Field.{Field, has_cell, difference, intersection, rows_below}
use Rattle.lane_board.proofs.CallerLemmas.{same_from_both}
use Rattle.srs.specs.declared.piece.Piece.{Piece}
use Rattle.srs.specs.declared.rotation.Rotation.{Rotation}
use Rattle.srs.specs.declared.rotation.Rotation.TheVariants.{Spawn, Right, Reverse, Left}
use Rattle.srs.specs.Cells.{Cell, moved, shape}
use Rattle.well.specs.Free.{is_open, is_free_at}
use Rattle.well.proofs.CallerLemmas.{free_pivot, free_pivot_open}
use Rattle.place_sets.specs.States.{States, has_pivot}
use Rattle.whole_flood.specs.FreePivots.{IsFreeMap}
use Rattle.whole_flood.specs.Opened.{opened, opened_at, AreFreePivots}
use Rattle.place_sets.proofs.CallerLemmas.{moved_from, moved_to, moved_back, moved_forth, same_column, same_row, PivotAt}

module _ (F : Field) where
  -- the open cells of the well
  abbrev pub blank : Field
  blank = difference (rows_below 23) F

  open_from_blank : (x y : ℕ) → blank x y ≡ true → is_open F (pos x, pos y) ≡ true
  unfolding difference rows_below is_open
  open_from_blank x y filled = search (rules, and_parts, ltb-true, and_from, le-leb)

  blank_inside : (x y : ℕ) → blank x y ≡ true → (x < 10) × (y < 24)
  unfolding difference rows_below
  blank_inside x y filled = search (rules, and_parts, ltb-true)

  blank_from_open : (cell : Cell) → is_open F cell ≡ true → PivotAt blank cell
  unfolding difference rows_below is_open
  blank_from_open cell opens = search (rules, and_parts, leb-true, and_from, lt-ltb, false≢true)

  all_open : (N : ℕ) (offsets : List Cell) (S : Field) (x y : ℕ) → opened_at blank N offsets S x y ≡ true → (S x y ≡ true) × (list_all (is_open F) (map (moved (pos x, pos y)) offsets) ≡ true)
  unfolding opened_at opened intersection
  all_open N [] S x y held = (held, refl)
  all_open N (offset ∷ offsets) S x y held =
      search (rules, (moved_from blank N (neg_ℤ offset.0, neg_ℤ offset.1) x y), (and_parts (S x y)), (all_open N offsets (opened blank N offset S) x y held), and_from, moved_forth, open_from_blank)

  opens_all : (N : ℕ) (offsets : List Cell) (S : Field) (x y : ℕ) → S x y ≡ true → x < 10 → y < N → list_all (is_open F) (map (moved (pos x, pos y)) offsets) ≡ true → opened_at blank N offsets S x y ≡ true
  unfolding opened_at opened intersection
  opens_all N [] S x y held column row all = held
  opens_all N (offset ∷ offsets) S x y held column row all =
      search (rules, (blank_from_open (moved (pos x, pos y) offset)), (and_parts (is_open F (moved (pos x, pos y) offset))), (opens_all N offsets (opened blank N offset S) x y), and_from, (moved_to blank N (neg_ℤ offset.0, neg_ℤ offset.1)), (moved_back x y))

  free_exact : (piece : Piece) (r : Rotation) (G : Field) → G ≡ opened_at blank 24 (shape piece r) blank → (pivot : Cell) → is_free_at F piece r pivot ≡ has_cell G pivot.0 pivot.1
  unfolding has_cell is_free_at
  free_exact piece r G e (pos x, pos y) = same_from_both _ _ there back
    where
      back : G x y ≡ true → list_all (is_open F) (map (moved (pos x, pos y)) (shape piece r)) ≡ true
      back held = (all_open 24 (shape piece r) blank x y (sym (ap (λ (G : Field). G x y) e) ∙ held)).1

      there : is_free_at F piece r (pos x, pos y) ≡ true → G x y ≡ true
      there free_here = search (rules, (blank_from_open (pos x, pos y)), (free_pivot_open F piece r (pos x, pos y)), (same_column x y), (same_row x y), (opens_all 24 (shape piece r) blank x y), (blank_inside x y))
  free_exact piece r G e (pos x, negsuc y) = search (rules, false_from_ne_true, free_pivot)
  free_exact piece r G e (negsuc x, pos y) = search (rules, false_from_ne_true, free_pivot)
  free_exact piece r G e (negsuc x, negsuc y) = search (rules, false_from_ne_true, free_pivot)

-- a board made so holds the free pivots
pub free_pivots-exact : (F B : Field) (piece : Piece) (r : Rotation) (G : Field) → B ≡ difference (rows_below 23) F → G ≡ opened_at B 24 (shape piece r) B → AreFreePivots F piece r G
free_pivots-exact F B piece r G is made =
    record { exact = free_exact F piece r G (made ∙ ap (λ (B : Field). opened_at B 24 (shape piece r) B) is) }

-- four such boards hold the free states
pub free_map : (F : Field) (piece : Piece) (free : States) →
    AreFreePivots F piece Spawn (free Spawn) → AreFreePivots F piece Right (free Right) → AreFreePivots F piece Reverse (free Reverse) → AreFreePivots F piece Left (free Left) → IsFreeMap F piece free
unfolding has_pivot
free_map F piece free a b c d = search rules
