-- A placement is a generalized piece: what one of them, and a run of them, does to tilings.
use Rattle.std.proofs.Common.{◌≡◌, ℕ, ◌-◌, ◌<◌, ◌≤◌, Bool, true, ◌==◌, List, [], ◌∷◌, map, ℤ, pos, negsuc, nat_abs, ◌+ℤ◌, refl, subst, arith, rules}
use Rattle.std.specs.Prelude.{int_lt}
use Rattle.std.specs.List.{list_all}
use Rattle.std.proofs.lemmas.Bool.{cases_Bool, cond-true, cond-false, and_parts, false≢true, ltb-true, leb-true, not-true}
use Rattle.srs.specs.declared.piece.Piece.{Piece}
use Rattle.srs.specs.declared.placement.Placement.{Placement}
use Rattle.srs.specs.Piece.{piece_code}
use Rattle.srs.specs.Cells.{Cell, shape, moved, cells_of, pivot_of, is_inside_of}
use Rattle.srs.specs.SameCells.{is_among}
use Rattle.srs.proofs.CallerLemmas.{is_among-all, list_all-from_is_among, in_well-place, inside_cell}
use Rattle.lane_board.specs.Field.{Field}
use Rattle.well.specs.Free.{is_open, is_free_at, is_free}
use Rattle.well.specs.Lock.{together, locked, rows_removed}
use Rattle.well.specs.LockLaws.{is_below}
use Rattle.well.proofs.CallerLemmas.{free_inside, stays_below, together_below}
use Rattle.prune.specs.Tiling.{Part, sent, IsGeneralized, is_empty_below, covers, Tiling, Supply}
use Rattle.prune.specs.Laws.{with_one, OnePlacement, FullRowsMayStand, MorePieces, kinds_placed, ClearedIsTiled}
use Rattle.prune.proofs.CellCounts.{count-yes, count-no}
use Rattle.prune.proofs.EmptyCells.{is_empty_at, none_below}
use Rattle.prune.proofs.RowOrigins.{standing}
use Rattle.prune.proofs.PartsOfTilings.{with_part}

-- two functions that agree on the cells of a list
map-agree : (f g : Cell → Cell) (ok : Cell → Bool) (cells : List Cell) → list_all ok cells ≡ true → ((c : Cell) → ok c ≡ true → f c ≡ g c) → map f cells ≡ map g cells
map-agree f g ok [] all agree = refl
map-agree f g ok (c ∷ cs) all agree = search (rules, and_parts, (map-agree f g ok cs))

abbrev pub placed : Placement → Part
placed q = record { piece = q.piece; cells = cells_of q }

-- the row of the field in which a row of the shape lies
row_of : Placement → ℤ → ℕ
row_of q z = nat_abs (pos q.y +ℤ z)

module _ (q : Placement) (inside : is_inside_of q ≡ true) where
  at : (c : Cell) → is_among (shape q.piece q.rotation) c ≡ true → pos q.y +ℤ c.1 ≡ pos (row_of q c.1)
  unfolding moved row_of
  at c has = search (rules, in_well-place, (inside_cell q c inside has))

  same_cell : (c : Cell) → is_among (shape q.piece q.rotation) c ≡ true → moved (pivot_of q) c ≡ sent (pos q.x) (row_of q) c
  unfolding moved sent
  same_cell c has = search (rules, (c.0 +ℤ pos q.x), (at c has))

  rise : (a b : ℤ) → int_lt a b ≡ true → pos q.y +ℤ a ≡ pos (row_of q a) → pos q.y +ℤ b ≡ pos (row_of q b) → row_of q a < row_of q b
  rise a b lower at_a at_b = search (rules, ltb-true, false≢true)

  pub placed_generalized : IsGeneralized (placed q)
  placed_generalized =
      search (rules, rise, at, (map-agree (moved (pivot_of q)) (sent (pos q.x) (row_of q)) (is_among (shape q.piece q.rotation)) (shape q.piece q.rotation) (list_all-from_is_among (is_among (shape q.piece q.rotation)) (shape q.piece q.rotation) (λ c has. has)) same_cell))

-- the cells of a free placement below a row are empty ones
open_below : (F : Field) (rows : ℕ) (cell : Cell) → is_open F cell ≡ true → int_lt cell.1 (pos rows) ≡ true → is_empty_below F rows cell ≡ true
unfolding is_open
open_below F rows (pos x, pos y) opened below = search (rules, and_parts, is_empty_at, leb-true, ltb-true, not-true)
open_below F rows (pos x, negsuc y) opened below = absurd (false≢true opened)
open_below F rows (negsuc x, pos y) opened below = absurd (false≢true opened)
open_below F rows (negsuc x, negsuc y) opened below = absurd (false≢true opened)

pub placed_empty : (F : Field) (rows : ℕ) (q : Placement) → is_free F q ≡ true → is_below rows q ≡ true → list_all (is_empty_below F rows) (cells_of q) ≡ true
unfolding is_free_at
placed_empty F rows q free below = search (rules, list_all-from_is_among, open_below, is_among-all)

pub full_rows_may_stand : FullRowsMayStand
unfolding locked rows_removed
full_rows_may_stand F q height supply within below free placed = standing (together F q) height within (together_below F q height below placed) supply

pub one_placement : OnePlacement
unfolding together
one_placement F q height supply within below free placed_below t =
    with_part F height (placed q) supply (placed_generalized q (free_inside F q free)) (placed_empty F height q free placed_below)
    ((full_rows_may_stand F q height supply within below free placed_below).1 t)

pub more_pieces : MorePieces
more_pieces F rows supply more enough t = search (rules, t.supplied)

no_rows : (F : Field) (rows : ℕ) (supply : Supply) → rows ≡ 0 → Tiling F rows supply
unfolding covers
no_rows F rows supply none = search (rules, cond-false, none_below)

one_more : (q : Placement) (rest : List Placement) (piece : Piece) → with_one (kinds_placed rest) q.piece piece ≤ kinds_placed (q ∷ rest) piece
unfolding with_one kinds_placed
one_more q rest piece =
    search (rules, (cases_Bool (piece_code q.piece == piece_code piece)), (count-yes (λ q. piece_code q.piece == piece_code piece) q rest), cond-true, (count-no (λ q. piece_code q.piece == piece_code piece) q rest), cond-false)

pub cleared_is_tiled : ClearedIsTiled
cleared_is_tiled F rows [] within below none = no_rows F rows (kinds_placed []) none
cleared_is_tiled F rows (q ∷ rest) within below clears =
    let after = cleared_is_tiled (locked F q) (rows - rows_removed F q) rest (omega arith) (record { none = λ x y above. stays_below F q rows within below clears.1 x y (omega arith) }) clears.2 in
    more_pieces F rows (with_one (kinds_placed rest) q.piece) (kinds_placed (q ∷ rest)) (one_more q rest) (one_placement F q rows (kinds_placed rest) within below clears.0 clears.1 after)
