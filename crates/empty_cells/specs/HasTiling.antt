-- Whether a tiling exists, as a test: pieces are taken one by one, each by its rows.
use Rattle.std.specs.Prelude.{ℕ, zero, suc, ◌+◌, Bool, not, ◌&&◌, ◌||◌, nat_lt, nat_le, List, [], ◌∷◌, sum_by}
use Rattle.std.specs.List.{list_any, list_all, range_with_len}
use Rattle.lane_board.specs.Field.{Field, rows_below, difference}
use Rattle.lane_board.specs.FullRows.{columns}
use Rattle.srs.specs.declared.placement.Placement.{Placement}
use Rattle.srs.specs.Piece.{all_pieces}
use Rattle.prune.specs.Tiling.{Supply}
use Rattle.prune.specs.OnePart.{less_one}
use Rattle.empty_cells.specs.declared.span.Span.{Span}
use Rattle.empty_cells.specs.Empties.{all_but, without_placement}
use Rattle.empty_cells.specs.Spans.{forms_of, has_span, without_span}

-- a set has no cell in the columns, below a row
unfoldable pub is_empty : ℕ → Field → Bool
is_empty height E = list_all (λ x. list_all (λ y. not (E x y)) (range_with_len 0 height)) columns

-- spans can be stacked from row `floor` on so that a test passes of what they leave
unfoldable pub can_stack : ℕ → (Field → Bool) → Field → ℕ → ℕ → List Span → Bool
can_stack height test E x floor [] = test E
can_stack height test E x floor (span ∷ spans) =
    list_any (λ row. nat_le floor row && (has_span E x span row
    && can_stack height test (without_span E x span row) x (row + 1) spans)) (range_with_len 0 height)

-- the cells of a set below a row can be filled by so many pieces of the supply
unfoldable pub can_fill : ℕ → ℕ → Supply → Field → Bool
can_fill zero height supply E = is_empty height E
can_fill (suc n) height supply E = is_empty height E
    || list_any (λ piece. nat_lt 0 (supply piece)
    && list_any (λ spans. list_any (λ x.
    can_stack height (can_fill n height (less_one supply piece)) E x 0 spans) columns) (forms_of piece)) all_pieces

-- the empty cells of rows 0 to rows - 1 have a tiling by the supply
unfoldable pub has_tiling : Field → ℕ → Supply → Bool
has_tiling F rows supply = can_fill (sum_by supply all_pieces) rows supply (difference (rows_below rows) F)

-- a set of cells in rows 0 to 7 without those of a placement has a tiling by the supply
abbrev pub leaves_tiling : Field → Placement → Supply → Bool
leaves_tiling E placement supply = has_tiling (all_but (without_placement E placement)) 8 supply
