-- The test of a tiling is true exactly where one exists.
use Rattle.std.proofs.Common.{◌≡◌, ℕ, zero, suc, ◌+◌, ◌-◌, ◌<◌, ◌≤◌, Bool, true, false, not, ◌&&◌, nat_lt, nat_le, List, [], ◌∷◌, length, get_or, ◌↔◌, refl, sym, ap, subst, ◌∙◌, inl, inr, arith, rules}
use Rattle.std.specs.Prelude.{sum_by}
use Rattle.std.specs.List.{list_any, list_all, range_with_len}
use Rattle.std.proofs.lemmas.Bool.{cases_Bool, both_ways, and_parts, and_from, and_cases, or_cases, or_left, or_right, not-true, not-false, false≢true, true≢false, false_from_ne_true, leb-true, le-leb, ltb-true, lt-ltb}
use Rattle.std.proofs.lemmas.List.Folds.{list_any_at}
use Rattle.std.proofs.lemmas.List.FromFn.{get_or-range_with_len, length-range_with_len}
use Rattle.lane_board.specs.Field.{Field, rows_below, difference}
use Rattle.lane_board.specs.FullRows.{columns}
use Rattle.lane_board.proofs.CallerLemmas.{same_from_both, column_is}
use Rattle.srs.specs.declared.piece.Piece.{Piece}
use Rattle.srs.specs.declared.piece.Piece.TheVariants.{I}
use Rattle.srs.specs.Piece.{all_pieces, piece_code}
use Rattle.srs.proofs.CallerLemmas.{list_all_each, piece_code-some, piece_code-small}
use Rattle.prune.specs.Tiling.{Tiling, Supply}
use Rattle.prune.specs.OnePart.{less_one}
use Rattle.empty_cells.specs.declared.span.Span.{Span}
use Rattle.empty_cells.specs.Spans.{forms_of, has_span, without_span, HasNoCell}
use Rattle.empty_cells.specs.Stacks.{Stacks, CanFill, without_stack}
use Rattle.empty_cells.specs.HasTiling.{is_empty, can_stack, can_fill, has_tiling}
use Rattle.empty_cells.proofs.SupplyLemmas.{piece_in_all, total, total-less_one}
use Rattle.empty_cells.proofs.StackLemmas.{IsSmall, Chosen, some_in_span}
use Rattle.empty_cells.proofs.ChosenLemmas.{was_there, chosen, stacked, follows-all}
use Rattle.empty_cells.proofs.FormLemmas.{form, form_at, rotation_at, form_within, form_with_index, left_in_stack}
use Rattle.empty_cells.proofs.FillLemmas.{fills_nothing, fills_chosen, FilledBy, filled_by}
use Rattle.empty_cells.proofs.SameTilings.{tiling_below}

-- an item that passes a test, and one that does not
some_item : {X : Type 0} (test : X → Bool) (xs : List X) (d : X) → list_any test xs ≡ true → (i : ℕ) × (i < length xs) × (test (get_or xs i d) ≡ true)
some_item test [] d some = absurd (false≢true some)
some_item test (x ∷ xs) d some = elim (or_cases (test x) _ some) [
  | inl here ↦ (0, omega arith, here)
  | inr later ↦ let found = some_item test xs d later in (suc found.0, omega (arith, found.1), found.2)
]

one_fails : {X : Type 0} (test : X → Bool) (xs : List X) (d : X) → list_all test xs ≡ false → (i : ℕ) × (i < length xs) × (test (get_or xs i d) ≡ false)
one_fails test [] d not_all = absurd (true≢false not_all)
one_fails test (x ∷ xs) d not_all = elim (and_cases (test x) _ not_all) [
  | inl here ↦ (0, omega arith, here)
  | inr later ↦ let found = one_fails test xs d later in (suc found.0, omega (arith, found.1), found.2)
]

some_below : (test : ℕ → Bool) (n : ℕ) → list_any test (range_with_len 0 n) ≡ true → (i : ℕ) × (i < n) × (test i ≡ true)
some_below test n some =
    search (rules, (some_item test (range_with_len 0 n) 0 some), (length-range_with_len 0 n), (get_or-range_with_len 0 n (some_item test (range_with_len 0 n) 0 some).0 0))

at_number : (test : ℕ → Bool) (n i : ℕ) → i < n → test i ≡ true → list_any test (range_with_len 0 n) ≡ true
at_number test n i below here = search (rules, (list_any_at test (range_with_len 0 n) i 0), (length-range_with_len 0 n), (get_or-range_with_len 0 n i 0 below))

-- a set with no cell below the row that bounds it has none
empty-from_test : (height : ℕ) (E : Field) → IsSmall height E → is_empty height E ≡ true → HasNoCell E
unfolding is_empty
empty-from_test height E small empty = record { none = λ x y. false_from_ne_true (E x y) (λ here. both_ways (E x y) (none x y (small.column x y here) (small.row x y here)) here) }
  where
    none : (x y : ℕ) → x < 10 → y < height → E x y ≡ false
    none x y near low =
        let column = subst (λ k. list_all (λ y. not (E k y)) (range_with_len 0 height) ≡ true) (column_is x near) (list_all_each (λ x. list_all (λ y. not (E x y)) (range_with_len 0 height)) columns x 0 empty (omega arith)) in
        let row = list_all_each (λ y. not (E x y)) (range_with_len 0 height) y 0 column (omega (arith, length-range_with_len 0 height)) in
        not-true (E x y) (subst (λ k. not (E x k) ≡ true) (get_or-range_with_len 0 height y 0 low ∙ omega arith) row)

-- and another has one
some_cell : (height : ℕ) (E : Field) → is_empty height E ≡ false → (x : ℕ) × (y : ℕ) × (E x y ≡ true)
unfolding is_empty
some_cell height E some =
    let column = one_fails (λ x. list_all (λ y. not (E x y)) (range_with_len 0 height)) columns 0 some in
    let row = one_fails (λ y. not (E (get_or columns column.0 0) y)) (range_with_len 0 height) 0 column.2 in
    (get_or columns column.0 0, get_or (range_with_len 0 height) row.0 0, not-false _ row.2)

smaller : (height : ℕ) (E : Field) (x row : ℕ) (span : Span) → IsSmall height E → IsSmall height (without_span E x span row)
smaller height E x row span small = search (rules, was_there)

smaller_by_stack : (height : ℕ) (E : Field) (x : ℕ) (rows : ℕ → ℕ) (spans : List Span) → IsSmall height E → IsSmall height (without_stack E x rows spans)
unfolding without_stack
smaller_by_stack height E x rows spans small = search (rules, and_parts)

-- any row may be taken
abbrev Any : ℕ → Span → ℕ → Bool
Any floor span row = true

stacks-from_test : (height : ℕ) (test : Field → Bool) (E : Field) (x floor : ℕ) (spans : List Span) → can_stack height test E x floor spans ≡ true → Stacks Any (λ G. test G ≡ true) E x floor spans
unfolding Stacks can_stack
stacks-from_test height test E x floor [] passes = passes
stacks-from_test height test E x floor (span ∷ spans) passes =
    let found = some_below (λ row. nat_le floor row && (has_span E x span row && can_stack height test (without_span E x span row) x (row + 1) spans)) height passes in
    let row = found.0 in
    let low = and_parts (nat_le floor row) (has_span E x span row && can_stack height test (without_span E x span row) x (row + 1) spans) found.2 in
    let fits = and_parts (has_span E x span row) (can_stack height test (without_span E x span row) x (row + 1) spans) low.1 in
    (row, record { above = leb-true floor row low.0; permitted = refl; has = fits.0 }, stacks-from_test height test (without_span E x span row) x (row + 1) spans fits.1)

test-from_stacks : (height : ℕ) (test : Field → Bool) (E : Field) (x floor : ℕ) (spans : List Span) → IsSmall height E → Stacks Any (λ G. test G ≡ true) E x floor spans → can_stack height test E x floor spans ≡ true
unfolding Stacks can_stack
test-from_stacks height test E x floor [] small passes = passes
test-from_stacks height test E x floor (span ∷ spans) small taken =
    let row = taken.0 in
    let cell = some_in_span E x span row taken.1.has in
    at_number (λ row. nat_le floor row && (has_span E x span row && can_stack height test (without_span E x span row) x (row + 1) spans)) height row (small.row cell.0 row cell.1)
    (and_from _ _ (le-leb floor row taken.1.above) (and_from _ _ taken.1.has (test-from_stacks height test (without_span E x span row) x (row + 1) spans (smaller height E x row span small) taken.2)))

pub fill-from_test : (n height : ℕ) (supply : Supply) (E : Field) → IsSmall height E → can_fill n height supply E ≡ true → CanFill height supply E
unfolding can_fill
fill-from_test zero height supply E small passes = fills_nothing height E supply (empty-from_test height E small passes)
fill-from_test (suc n) height supply E small passes = elim (or_cases (is_empty height E) _ passes) [
  | inl empty ↦ fills_nothing height E supply (empty-from_test height E small empty)
  | inr some ↦
      let by_piece = some_item (λ piece. nat_lt 0 (supply piece) && list_any (λ spans. list_any (λ x. can_stack height (can_fill n height (less_one supply piece)) E x 0 spans) columns) (forms_of piece)) all_pieces I some in
      let piece = get_or all_pieces by_piece.0 I in
      let parts = and_parts (nat_lt 0 (supply piece)) (list_any (λ spans. list_any (λ x. can_stack height (can_fill n height (less_one supply piece)) E x 0 spans) columns) (forms_of piece)) by_piece.2 in
      let by_form = some_item (λ spans. list_any (λ x. can_stack height (can_fill n height (less_one supply piece)) E x 0 spans) columns) (forms_of piece) [] parts.1 in
      let spans = get_or (forms_of piece) by_form.0 [] in
      let by_column = some_item (λ x. can_stack height (can_fill n height (less_one supply piece)) E x 0 spans) columns 0 by_form.2 in
      let x = get_or columns by_column.0 0 in
      let choice = chosen Any (λ G. can_fill n height (less_one supply piece) G ≡ true) E x 0 spans (stacks-from_test height (can_fill n height (less_one supply piece)) E x 0 spans by_column.2) in
      let filled : Chosen (CanFill height (less_one supply piece)) E x 0 spans = record {
        rows = choice.rows;
        rises = choice.rises;
        above = choice.above;
        within = choice.within;
        rest = fill-from_test n height (less_one supply piece) (without_stack E x choice.rows spans) (smaller_by_stack height E x choice.rows spans small) choice.rest;
      } in
      fills_chosen height E supply piece (rotation_at by_form.0) x 0 small (ltb-true _ _ parts.0)
      (subst (λ spans. Chosen (CanFill height (less_one supply piece)) E x 0 spans) (sym (form_with_index piece by_form.0 by_form.1)) filled)
]

some_in_total : (supply : Supply) (piece : Piece) → supply piece ≤ total supply
some_in_total supply piece = search rules

pub test-from_fill : (n height : ℕ) (supply : Supply) (E : Field) → total supply ≤ n → IsSmall height E → CanFill height supply E → can_fill n height supply E ≡ true
unfolding can_fill
test-from_fill zero height supply E enough small filling =
    search (rules, (cases_Bool (is_empty height E)), (filled_by height E supply), (some_cell height E), (some_in_total supply))
test-from_fill (suc n) height supply E enough small filling = elim (cases_Bool (is_empty height E)) [
  | inl empty ↦ or_left (is_empty height E) _ empty
  | inr some ↦ let cell = some_cell height E some in or_right (is_empty height E) _ (with_piece (λ fewer G enough. test-from_fill n height fewer G enough) (filled_by height E supply cell.0 cell.1 small cell.2 filling))
]
  where
    with_piece : {x0 y0 : ℕ} → ((fewer : Supply) (G : Field) → total fewer ≤ n → IsSmall height G → CanFill height fewer G → can_fill n height fewer G ≡ true) → FilledBy height E supply x0 y0 →
        list_any (λ piece. nat_lt 0 (supply piece) && list_any (λ spans. list_any (λ x. can_stack height (can_fill n height (less_one supply piece)) E x 0 spans) columns) (forms_of piece)) all_pieces ≡ true
    with_piece later by =
        let spans = form by.piece by.rotation in
        let test = can_fill n height (less_one supply by.piece) in
        let left = left_in_stack by.piece by.rotation by.x by.rows in
        let near : by.x < 10 = small.column by.x left.0 (by.within.inside by.x left.0 left.1) in
        let rest = later (less_one supply by.piece) (without_stack E by.x by.rows spans) (omega (arith, total-less_one supply by.piece by.some)) (smaller_by_stack height E by.x by.rows spans small) by.rest in
        let stacks = stacked Any (λ G. test G ≡ true) E by.x 0 by.rows spans by.rises (λ k below. omega arith) by.within (follows-all 0 by.rows spans) rest in
        let at_column = list_any_at (λ x. can_stack height test E x 0 spans) columns by.x 0 (omega arith) (ap (λ k. can_stack height test E k 0 spans) (column_is by.x near) ∙ test-from_stacks height test E by.x 0 spans small stacks) in
        let at_form = list_any_at (λ spans. list_any (λ x. can_stack height test E x 0 spans) columns) (forms_of by.piece) (form_at by.piece by.rotation) [] (form_within by.piece by.rotation) at_column in
        list_any_at (λ piece. nat_lt 0 (supply piece) && list_any (λ spans. list_any (λ x. can_stack height (can_fill n height (less_one supply piece)) E x 0 spans) columns) (forms_of piece)) all_pieces (piece_code by.piece - 1) I
        (omega (arith, piece_code-some by.piece, piece_code-small by.piece))
        (ap (λ piece. nat_lt 0 (supply piece) && list_any (λ spans. list_any (λ x. can_stack height (can_fill n height (less_one supply piece)) E x 0 spans) columns) (forms_of piece)) (piece_in_all by.piece)
        ∙ and_from _ _ (lt-ltb 0 _ by.some) at_form)

sum_is_total : (supply : Supply) → sum_by supply all_pieces ≡ total supply
sum_is_total supply = omega arith

below_small : (F : Field) (rows : ℕ) → IsSmall rows (difference (rows_below rows) F)
unfolding difference rows_below
below_small F rows = search (rules, ltb-true, and_parts)

-- the test of a tiling
pub tiling_decided : (F : Field) (rows : ℕ) (supply : Supply) → (has_tiling F rows supply ≡ true) ↔ Tiling F rows supply
unfolding has_tiling
tiling_decided F rows supply = search (rules, tiling_below, fill-from_test, below_small, test-from_fill, sum_is_total)

-- an answer that is right is that of the test, and one that is that of the test is right
pub answer-from_right : (answer : Bool) (F : Field) (rows : ℕ) (supply : Supply) → (answer ≡ true) ↔ Tiling F rows supply → answer ≡ has_tiling F rows supply
answer-from_right answer F rows supply right = search (rules, tiling_decided, same_from_both)

pub right-from_answer : (answer : Bool) (F : Field) (rows : ℕ) (supply : Supply) → answer ≡ has_tiling F rows supply → (answer ≡ true) ↔ Tiling F rows supply
right-from_answer answer F rows supply same = search (rules, tiling_decided)
