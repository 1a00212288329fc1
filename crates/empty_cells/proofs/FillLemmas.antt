-- Cells can be filled exactly where there are none, or some piece of the supply stacks over one of them and the rest can be filled.
use Rattle.std.proofs.Common.{◌≡◌, ℕ, ◌+◌, ◌<◌, Bool, true, false, not, ◌&&◌, ◌||◌, ℤ, pos, negsuc, ◌+ℤ◌, ◌-ℤ◌, List, length, map, refl, sym, ap, subst, ◌∙◌, arith, rules}
use Rattle.std.proofs.Math.Path.{fun_ext}
use Rattle.std.specs.List.{list_all}
use Rattle.std.proofs.lemmas.Bool.{cases_Bool, cases_lt, both_ways, and_from, cond-true, cond-false, eqb-true, lt-ltb}
use Rattle.std.proofs.lemmas.List.Elements.{All-nil}
use Rattle.std.proofs.lemmas.Int.{ints}
use Rattle.std.proofs.Math.Bool.{not-not}
use Rattle.lane_board.specs.Field.{Field, rows_below, has_cell}
use Rattle.srs.specs.declared.piece.Piece.{Piece}
use Rattle.srs.specs.declared.rotation.Rotation.{Rotation}
use Rattle.srs.specs.Cells.{Cell, shape}
use Rattle.srs.specs.SameCells.{is_among}
use Rattle.srs.proofs.CallerLemmas.{is_among-all, list_all-from_is_among, piece_code-injective}
use Rattle.well.specs.Lock.{with_cells}
use Rattle.prune.specs.Tiling.{Part, IsGeneralized, sent, is_empty_below, covers, Tiling, Supply}
use Rattle.prune.specs.Laws.{with_one}
use Rattle.prune.specs.OnePart.{less_one}
use Rattle.prune.proofs.CallerLemmas.{with_part, taken_part, has_cell-map, source_of}
use Rattle.empty_cells.specs.declared.span.Span.{Span}
use Rattle.empty_cells.specs.Empties.{all_but, has_cell_at}
use Rattle.empty_cells.specs.Spans.{HasNoCell, IsFirst}
use Rattle.empty_cells.specs.Stacks.{is_allowed, CanFill, Stacks, StacksPiece, in_stack, without_stack}
use Rattle.empty_cells.proofs.EmptiesLemmas.{CellOf, cell_of}
use Rattle.empty_cells.proofs.StackLemmas.{Rises, IsWithin, IsSmall, Chosen}
use Rattle.empty_cells.proofs.ChosenLemmas.{chosen, stacked, follows-first}
use Rattle.empty_cells.proofs.FormLemmas.{leftmost, lowest, form, distance, place_in, Matches, sent_column, same_cells, left_cell, left_in_stack, stack_right_of, level_within, level_up, row_up, cell_at_level, row_by_level, form_within, form_with_index}

-- which cells are empty where all but those of a set are filled
pub empty_is : (height : ℕ) (E : Field) (a b : ℕ) → IsSmall height E → is_empty_below (all_but E) height (pos a, pos b) ≡ E a b
unfolding is_empty_below all_but rows_below
empty_is height E a b small = search (rules, not-not, and_from, lt-ltb)

negative_column : (height : ℕ) (E : Field) (n b : ℕ) → is_empty_below (all_but E) height (negsuc n, pos b) ≡ false
unfolding is_empty_below
negative_column height E n b = refl

-- where there is no cell, no part is needed
pub fills_nothing : (height : ℕ) (E : Field) (supply : Supply) → HasNoCell E → CanFill height supply E
unfolding covers is_empty_below all_but
fills_nothing height E supply none = search (rules, All-nil, cond-false, not-not)

-- a cell of sent cells comes from one of them
pub sent_from : (f : Cell → Cell) (cells : List Cell) (d : Cell) → is_among (map f cells) d ≡ true → (c : Cell) × (is_among cells c ≡ true) × (f c ≡ d)
sent_from f cells d has = let source = source_of f cells d has in (source.from, source.listed, source.sent)

pub not_without : (p q : Bool) → (not p || q) ≡ not (p && not q)
not_without p q = search rules

-- what is left where the cells of spans are filled
pub left_by : (E : Field) (cells : List Cell) (x : ℕ) (rows : ℕ → ℕ) (spans : List Span) → ((a b : ℕ) → is_among cells (pos a, pos b) ≡ in_stack x rows spans a b) →
    with_cells (all_but E) cells ≡ all_but (without_stack E x rows spans)
unfolding with_cells all_but without_stack
left_by E cells x rows spans same = fun_ext (λ a. fun_ext (λ b. ap (λ t. not (E a b) || t) (same a b) ∙ not_without (E a b) (in_stack x rows spans a b)))

pub one_back : (supply : Supply) (piece : Piece) → 0 < supply piece → with_one (less_one supply piece) piece ≡ supply
unfolding with_one less_one
one_back supply piece some = search (rules, fun_ext, cases_Bool, piece_code-injective, eqb-true, cond-true, cond-false)

sent_at : (piece : Piece) (rotation : Rotation) (move : ℤ) (row : ℤ → ℕ) (x : ℕ) → leftmost piece rotation +ℤ move ≡ pos x → (c : Cell) → is_among (shape piece rotation) c ≡ true →
    sent move row c ≡ (pos (x + (place_in piece rotation c).0), pos (row c.1))
unfolding sent
sent_at piece rotation move row x moved c has = λ i. (sent_column piece rotation move x moved c has i, pos (row c.1))

negative_at : (piece : Piece) (rotation : Rotation) (move : ℤ) (row : ℤ → ℕ) (n : ℕ) (c : Cell) → c.0 +ℤ move ≡ negsuc n → sent move row c ≡ (negsuc n, pos (row c.1))
unfolding sent
negative_at piece rotation move row n c moved = λ i. (moved i, pos (row c.1))

-- stacked spans of a piece, as a part
pub record PartOf (piece : Piece) (rotation : Rotation) (x : ℕ) (rows : ℕ → ℕ) : Type 0 where
  pub part : Part
  pub kind : part.piece ≡ piece
  pub generalized : IsGeneralized part
  pub same : (a b : ℕ) → is_among part.cells (pos a, pos b) ≡ in_stack x rows (form piece rotation) a b
  pub inside : (E : Field) → IsWithin E x rows (form piece rotation) → list_all (has_cell_at E) part.cells ≡ true

pub part_of : (piece : Piece) (rotation : Rotation) (x : ℕ) (rows : ℕ → ℕ) → Rises rows (length (form piece rotation)) → PartOf piece rotation x rows
unfolding has_cell
part_of piece rotation x rows rises = record {
  part = part;
  kind = refl;
  generalized = search (rules, level_up, level_within);
  same = same;
  inside = inside;
}
  where
    move : ℤ
    move = pos x -ℤ leftmost piece rotation

    row : ℤ → ℕ
    row z = rows (distance (z -ℤ lowest piece rotation))

    part : Part
    part = record { piece = piece; cells = map (sent move row) (shape piece rotation) }

    matches : Matches piece rotation move row x rows
    matches = record { column = omega (arith, ints); row_at = λ c has. refl }

    same : (a b : ℕ) → is_among part.cells (pos a, pos b) ≡ in_stack x rows (form piece rotation) a b
    same = same_cells piece rotation move row x rows matches

    inside : (E : Field) → IsWithin E x rows (form piece rotation) → list_all (has_cell_at E) part.cells ≡ true
    inside E within = list_all-from_is_among (has_cell_at E) part.cells (λ c has.
        let from = sent_from (sent move row) (shape piece rotation) c has in
        here E within c _ _ (sym from.2 ∙ sent_at piece rotation move row x matches.column from.0 from.1) has)
      where
        here : (E : Field) → IsWithin E x rows (form piece rotation) → (c : Cell) (a b : ℕ) → c ≡ (pos a, pos b) → is_among part.cells c ≡ true → has_cell_at E c ≡ true
        here E within c a b is has = subst (λ c. has_cell_at E c ≡ true) (sym is) (within.inside a b (sym (same a b) ∙ subst (λ c. is_among part.cells c ≡ true) is has))

-- cells of a set are empty where all others are filled
pub empty_within : (height : ℕ) (E : Field) (cells : List Cell) → IsSmall height E → list_all (has_cell_at E) cells ≡ true → list_all (is_empty_below (all_but E) height) cells ≡ true
empty_within height E cells small inside =
    list_all-from_is_among (is_empty_below (all_but E) height) cells (λ c has. each c (cell_of E c (is_among-all (has_cell_at E) cells c inside has)))
  where
    each : (c : Cell) → CellOf E c → is_empty_below (all_but E) height c ≡ true
    each c at = subst (λ c. is_empty_below (all_but E) height c ≡ true) (sym at.is) (empty_is height E at.x at.y small ∙ at.has)

-- a piece whose spans are stacked in the set, and a filling of what it leaves
pub fills_chosen : (height : ℕ) (E : Field) (supply : Supply) (piece : Piece) (rotation : Rotation) (x floor : ℕ) → IsSmall height E → 0 < supply piece → Chosen (CanFill height (less_one supply piece)) E x floor (form piece rotation) → CanFill height supply E
fills_chosen height E supply piece rotation x floor small some choice =
    let by = part_of piece rotation x choice.rows choice.rises in
    subst (λ (s : Supply). CanFill height s E) (ap (λ p. with_one (less_one supply piece) p) by.kind ∙ one_back supply piece some)
    (with_part (all_but E) height by.part (less_one supply piece) by.generalized (empty_within height E by.part.cells small (by.inside E choice.within))
    (subst (λ (F : Field). Tiling F height (less_one supply piece)) (sym (left_by E by.part.cells x choice.rows (form piece rotation) by.same)) choice.rest))

-- a generalized piece within a set, by its spans
pub record StackOf (E : Field) (part : Part) : Type 0 where
  pub rotation : Rotation
  pub x : ℕ
  pub rows : ℕ → ℕ
  pub rises : Rises rows (length (form part.piece rotation))
  pub within : IsWithin E x rows (form part.piece rotation)
  pub same : (a b : ℕ) → is_among part.cells (pos a, pos b) ≡ in_stack x rows (form part.piece rotation) a b

pub stack_of : (height : ℕ) (E : Field) (part : Part) → IsSmall height E → IsGeneralized part → list_all (is_empty_below (all_but E) height) part.cells ≡ true → StackOf E part
stack_of height E part small g inside = at_column (leftmost part.piece g.rotation +ℤ g.move) refl
  where
    rows : ℕ → ℕ
    rows k = g.row (lowest part.piece g.rotation +ℤ pos k)

    sent_cells : List Cell
    sent_cells = map (sent g.move g.row) (shape part.piece g.rotation)

    empty : (d : Cell) → is_among sent_cells d ≡ true → is_empty_below (all_but E) height d ≡ true
    empty d has = is_among-all (is_empty_below (all_but E) height) part.cells d inside (subst (λ (cells : List Cell). is_among cells d ≡ true) (sym g.cells) has)

    at_column : (z : ℤ) → leftmost part.piece g.rotation +ℤ g.move ≡ z → StackOf E part
    at_column (pos x) moved = record {
      rotation = g.rotation;
      x = x;
      rows = rows;
      rises = record { rising = rising };
      within = record { inside = λ a b in_spans. sym (empty_is height E a b small) ∙ empty (pos a, pos b) (same a b ∙ in_spans) };
      same = λ a b. ap (λ (cells : List Cell). is_among cells (pos a, pos b)) g.cells ∙ same a b;
    }
      where
        matches : Matches part.piece g.rotation g.move g.row x rows
        matches = record { column = moved; row_at = λ c has. ap g.row (sym (row_by_level part.piece g.rotation c has)) }

        same : (a b : ℕ) → is_among sent_cells (pos a, pos b) ≡ in_stack x rows (form part.piece g.rotation) a b
        same = same_cells part.piece g.rotation g.move g.row x rows matches

        rising : (j k : ℕ) → j < k → k < length (form part.piece g.rotation) → rows j < rows k
        rising j k less below =
            let c = cell_at_level part.piece g.rotation j (omega arith) in
            let d = cell_at_level part.piece g.rotation k below in
            let up = g.rising c.0 d.0 c.1 d.1 (row_up part.piece g.rotation c.0 d.0 c.1 d.1 (omega (arith, c.2, d.2))) in
            omega (arith, up, matches.row_at c.0 c.1 ∙ ap rows c.2, matches.row_at d.0 d.1 ∙ ap rows d.2)
    at_column (negsuc n) moved =
        let c = left_cell part.piece g.rotation in
        absurd (both_ways _ (negative_column height E n (g.row c.0.1))
        (subst (λ (d : Cell). is_empty_below (all_but E) height d ≡ true) (negative_at part.piece g.rotation g.move g.row n c.0 (ap (λ z. z +ℤ g.move) c.2 ∙ moved))
        (empty (sent g.move g.row c.0) (has_cell-map (sent g.move g.row) (shape part.piece g.rotation) c.0 c.1))))

-- a piece of the supply that has a cell of a set that is filled, by its spans
pub record FilledBy (height : ℕ) (E : Field) (supply : Supply) (x0 y0 : ℕ) : Type 0 where
  pub piece : Piece
  pub rotation : Rotation
  pub x : ℕ
  pub rows : ℕ → ℕ
  pub some : 0 < supply piece
  pub rises : Rises rows (length (form piece rotation))
  pub within : IsWithin E x rows (form piece rotation)
  pub has : in_stack x rows (form piece rotation) x0 y0 ≡ true
  pub rest : CanFill height (less_one supply piece) (without_stack E x rows (form piece rotation))

pub filled_by : (height : ℕ) (E : Field) (supply : Supply) (x0 y0 : ℕ) → IsSmall height E → E x0 y0 ≡ true → CanFill height supply E → FilledBy height E supply x0 y0
filled_by height E supply x0 y0 small here filling =
    search (rules, (taken_part (all_but E) height supply (pos x0, pos y0) (empty_is height E x0 y0 small ∙ here) filling), stack_of, left_by)

-- spans of a piece that have the first cell of a set are stacked over it
pub over_first : (E : Field) (x y : ℕ) (piece : Piece) (rotation : Rotation) (left : ℕ) (rows : ℕ → ℕ) (Fact : Field → Type 0) → IsFirst E x y → Rises rows (length (form piece rotation)) →
    IsWithin E left rows (form piece rotation) → in_stack left rows (form piece rotation) x y ≡ true → Fact (without_stack E left rows (form piece rotation)) → Stacks (is_allowed y) Fact E x 0 (form piece rotation)
over_first E x y piece rotation left rows Fact first rises within has fact =
    search (rules, stacked, (stack_right_of left rows), (cases_lt left x), (both_ways (E left (left_in_stack piece rotation left rows).0)), (first.leftmost left (left_in_stack piece rotation left rows).0), (within.inside left (left_in_stack piece rotation left rows).0 (left_in_stack piece rotation left rows).1), follows-first)

-- the lowest cell of the leftmost column is covered by spans that begin in that column
pub record StackedFirst (E : Field) (supply : Supply) (x y : ℕ) : Type 0 where
  pub piece : Piece
  pub some : 0 < supply piece
  pub stacks : StacksPiece (less_one supply piece) E x y piece

pub stacked_first : (E : Field) (supply : Supply) (x y : ℕ) → IsSmall 8 E → IsFirst E x y → CanFill 8 supply E → StackedFirst E supply x y
stacked_first E supply x y small first filling =
    let by = filled_by 8 E supply x y small first.filled filling in
    record {
      piece = by.piece;
      some = by.some;
      stacks = search (rules, form_within, over_first);
    }

-- and where the spans of a piece stack so, the set can be filled
pub fills_stacked : (E : Field) (supply : Supply) (piece : Piece) (x y : ℕ) → IsSmall 8 E → 0 < supply piece → StacksPiece (less_one supply piece) E x y piece → CanFill 8 supply E
fills_stacked E supply piece x y small some s = search (rules, fills_chosen, chosen, form_with_index)
