-- A tiling that is moved to the side has the same orders of rows.
use Rattle.std.proofs.Common.{ℕ, List, [], ◌∷◌, map, ℤ, sym, subst}
use Rattle.std.specs.Prelude.{All}
use Rattle.std.proofs.lemmas.List.Elements.{All-cons, All-head, All-nil, All-tail}
use Rattle.lane_board.specs.Field.{Field}
use Rattle.prune.specs.Tiling.{Part, Supply}
use Rattle.empty_cells.specs.declared.shifted.Shifted.{Shifted}
use Rattle.empty_cells.specs.Empties.{all_but}
use Rattle.empty_cells.specs.ShiftedCells.{shifted_cells}
use Rattle.empty_cells.specs.Spans.{from_column}
use Rattle.empty_cells.proofs.CallerLemmas.{MovedTo, SameRows, counted_tiling, moved_part, same_rows, tiling_there}
use Rattle.tiled_pieces.specs.declared.row_order.RowOrder.{RowOrder}
use Rattle.tiled_pieces.specs.TilingLists.{laid_part}
use Rattle.tiled_pieces.specs.RowOrders.{HasRow, HasTurns}
use Rattle.tiled_pieces.specs.RowBits.{Fills}

-- parts in the same rows have the same turns
same_turns : (turn : ℕ → ℕ) (a b : Part) → SameRows a b → HasTurns turn (laid_part a) → HasTurns turn (laid_part b)
same_turns turn a b same turns = record {
  before = λ gap row is has. turns.before gap row
      (record { below = is.below; above = is.above; lower = from is.below is.lower; upper = from is.above is.upper; over = is.over; under = is.under; none = λ there. is.none (to gap there) })
      (from row has);
}
  where
    from : (row : ℕ) → HasRow (laid_part b) row → HasRow (laid_part a) row
    from row has = let there = (same.both row).1 (record { column = has.x; there = has.there }) in record { x = there.column; there = there.there }

    to : (row : ℕ) → HasRow (laid_part a) row → HasRow (laid_part b) row
    to row has = let there = (same.both row).0 (record { column = has.x; there = has.there }) in record { x = there.column; there = there.there }

moved_turns : (turn : ℕ → ℕ) (move : ℤ) (parts : List Part) → All (λ part. SameRows part (moved_part move part)) parts → All (HasTurns turn) (map laid_part parts) → All (HasTurns turn) (map laid_part (map (moved_part move) parts))
moved_turns turn move [] same turns = All-nil (HasTurns turn)
moved_turns turn move (part ∷ parts) same turns = All-cons (HasTurns turn) (laid_part (moved_part move part)) (map laid_part (map (moved_part move) parts))
    (same_turns turn part (moved_part move part) (All-head (λ part. SameRows part (moved_part move part)) part parts same) (All-head (HasTurns turn) (laid_part part) (map laid_part parts) turns))
    (moved_turns turn move parts (All-tail (λ part. SameRows part (moved_part move part)) part parts same) (All-tail (HasTurns turn) (laid_part part) (map laid_part parts) turns))

moved_fills : (order : RowOrder) (supply : Supply) (E F : Field) (fills : Fills order supply E) → MovedTo (all_but F) supply fills.tiling.parts → Fills order supply F
moved_fills order supply E F fills m = record {
  tiling = m.tiling;
  follows = λ kept. let can = fills.follows kept in record {
    turn = can.turn;
    agrees = can.agrees;
    each = subst (λ parts. All (HasTurns can.turn) (map laid_part parts)) (sym m.are)
        (moved_turns can.turn m.move fills.tiling.parts (same_rows (all_but F) (all_but E) supply fills.tiling m) can.each);
  };
}

-- of cells whose columns are counted from one of them
pub fills_counted : (s : Shifted) (order : RowOrder) (supply : Supply) → Fills order supply (shifted_cells s) → Fills order supply (from_column s.x (shifted_cells s))
fills_counted s order supply fills = moved_fills order supply (shifted_cells s) (from_column s.x (shifted_cells s)) fills (counted_tiling s supply fills.tiling)

pub fills_there : (s : Shifted) (order : RowOrder) (supply : Supply) → Fills order supply (from_column s.x (shifted_cells s)) → Fills order supply (shifted_cells s)
fills_there s order supply fills = moved_fills order supply (from_column s.x (shifted_cells s)) (shifted_cells s) fills (tiling_there s supply fills.tiling)
