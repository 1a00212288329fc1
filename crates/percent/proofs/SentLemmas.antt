-- The tilings of a position's empty cells, in rows of an earlier field.
use Rattle.std.proofs.Common.{ℕ, ◌≡◌, ◌∙◌, ◌<◌, ◌≤◌, true, not, List, get_or, map, ap, pos, sym, subst, arith, rules}
use Rattle.std.proofs.lemmas.List.Folds.{list_all-map}
use Rattle.std.proofs.lemmas.Bool.{not-true, not_from_false, not-false}
use Rattle.srs.proofs.CallerLemmas.{list_all-from_is_among}
use Rattle.lane_board.specs.Field.{Field, difference, has_cell}
use Rattle.srs.specs.declared.placement.Placement.{Placement}
use Rattle.srs.specs.Cells.{Cell, cells_of}
use Rattle.srs.specs.SameCells.{is_among}
use Rattle.well.specs.Free.{is_free}
use Rattle.well.specs.Lock.{together}
use Rattle.well.specs.LockLaws.{is_below}
use Rattle.well.proofs.CallerLemmas.{free_inside}
use Rattle.prune.specs.Tiling.{Part, Supply, Tiling}
use Rattle.prune.proofs.CallerLemmas.{SendsRows, cell_to, generalized_to, part_to, placed, placed_empty, placed_generalized, row_to, tiling_to}
use Rattle.empty_cells.specs.Empties.{all_but, has_cell_at}
use Rattle.empty_cells.specs.SentCells.{sent_cells, sent_up}
use Rattle.empty_cells.proofs.CallerLemmas.{IsSmall}
use Rattle.tiled_pieces.specs.TilingLists.{LaidPiece, laid_part}
use Rattle.percent.specs.Spread.{IsSpread}
use Rattle.percent.proofs.SpreadLemmas.{NearCell, near, row_of, spread-placed}
use Rattle.tiled_pieces.proofs.CallerLemmas.{LiesIn, left_by_part}

-- the rows of a position are sent to those of a set
pub sends : (F : Field) (height : ℕ) (rows : List ℕ) (E : Field) → height ≤ 8 → IsSpread F height rows E → SendsRows F height (all_but E) 8 (λ y. get_or rows y 0)
unfolding all_but
sends F height rows E few spread = record {
  rises = λ x v y z _ _ _ below_z _ _ lower. spread.rises y z lower below_z;
  below = λ x y _ below _. spread.within y (omega arith);
  empty = λ x y column below empty. ap not (spread.same x y (omega arith) below ∙ ap not empty);
  before = λ x z column below empty.
      let here : E x z ≡ true = not-false (E x z) empty in
      let at = row_of height rows z (spread.only x z here) in
      record { y = at.row; below = at.below; empty = not-true (F x at.row) (sym (spread.same x at.row (omega arith) at.below) ∙ ap (E x) at.sent ∙ here); sent = at.sent };
}

-- what is left is tiled there
pub tiled-left : (F : Field) (q : Placement) (height : ℕ) (rows : List ℕ) (E : Field) (supply : Supply) → height ≤ 8 → IsSpread F height rows E → is_free F q ≡ true → is_below height q ≡ true
    → Tiling (together F q) height supply → Tiling (all_but (difference E (sent_cells rows q))) 8 supply
tiled-left F q height rows E supply few spread free below t =
    tiling_to (together F q) height (all_but (difference E (sent_cells rows q))) 8 (λ y. get_or rows y 0)
    (sends (together F q) height rows (difference E (sent_cells rows q)) few (spread-placed F height rows E spread q free below)) supply t

-- a placement, with its rows sent
abbrev pub sent_part : List ℕ → Placement → Part
sent_part rows q = part_to (λ y. get_or rows y 0) (placed q)

abbrev pub laid : List ℕ → Placement → LaidPiece
laid rows q = record { piece = q.piece; cells = sent_cells rows q }

cells-same : (rows : List ℕ) (cells : List Cell) → map (cell_to (λ y. get_or rows y 0)) cells ≡ map (sent_up rows) cells
unfolding cell_to row_to sent_up
cells-same rows cells = search rules

pub laid-sent : (rows : List ℕ) (q : Placement) → laid_part (sent_part rows q) ≡ laid rows q
unfolding sent_cells
laid-sent rows q = λ i. record { piece = q.piece; cells = λ x y. is_among (cells-same rows (cells_of q) i) (pos x, pos y) }

pub left-sent : (rows : List ℕ) (E : Field) (q : Placement) → left_by_part E (sent_part rows q) ≡ difference E (sent_cells rows q)
left-sent rows E q = ap (λ (piece : LaidPiece). difference E piece.cells) (laid-sent rows q)

pub lies : (F : Field) (q : Placement) (height : ℕ) (rows : List ℕ) (E : Field) (supply : Supply) → height ≤ 8 → IsSmall 8 E → IsSpread F height rows E → is_free F q ≡ true → is_below height q ≡ true
    → 0 < supply q.piece → LiesIn E supply (sent_part rows q)
unfolding cell_to row_to has_cell
lies F q height rows E supply few small spread free below some = record {
  small = small;
  generalized = generalized_to F height (all_but E) 8 (λ y. get_or rows y 0) (sends F height rows E few spread) (placed q) (placed_empty F height q free below) (placed_generalized q (free_inside F q free));
  some = some;
  inside = list_all-map (has_cell_at E) (cell_to (λ y. get_or rows y 0)) (cells_of q) ∙ list_all-from_is_among (λ c. has_cell_at E (cell_to (λ y. get_or rows y 0) c)) (cells_of q) (λ c has. here c (near F height rows E spread q free below c has));
}
  where
    here : (c : Cell) → NearCell F height rows E spread q free below c → has_cell_at E (cell_to (λ y. get_or rows y 0) c) ≡ true
    here c at =
        let column = at.column in
        subst (λ c. has_cell_at E (cell_to (λ y. get_or rows y 0) c) ≡ true) (sym at.is) (spread.same at.x at.y (omega arith) at.row ∙ not_from_false (F at.x at.y) at.empty)
