-- The cells of a page as a field: what a placement fills, and which rows go.
use Rattle.std.proofs.lemmas.Grind.{common_steps}
use Rattle.std.proofs.Common.{◌≡◌, ℕ, zero, suc, ◌+◌, ◌-◌, ◌*◌, ◌<◌, ◌≤◌, Bool, true, false, not, ◌||◌, ◌==◌, pos, List, [], ◌∷◌, ◌++◌, length, set, take, drop, map, refl, sym, ap, subst, ◌∙◌, inl, inr, arith, rules}
use Rattle.std.specs.Prelude.{filter, fold, replicate}
use Rattle.std.specs.List.{list_all}
use Rattle.std.proofs.Math.Path.{fun_ext}
use Rattle.std.proofs.lemmas.Bool.{and_parts, cases_Bool, cases_eq, cases_lt, false_from_ne_true, or_right}
use Rattle.std.proofs.lemmas.List.{length-drop, length-set, map-append, same_lists, get_or-map, get_or-set_same, get_or-set_other, map-set, take-set-le, drop-set-lt, drop-set-add}
use Rattle.std.proofs.Math.Seq.{take-set-lt}
use Rattle.std.proofs.lemmas.List.Folds.{list_all-map}
use Rattle.lane_board.specs.Field.{Field}
use Rattle.lane_board.specs.FullRows.{columns, is_full, full_below, without_full_rows}
use Rattle.lane_board.proofs.CallerLemmas.{column_is, full_below-full, full_below-other, left_below, lowered_from, lowered_to, or_none, same_from_both}
use Rattle.srs.proofs.CallerLemmas.{filter-false, filter-true, cell_eq-decides, in_well-place}
use Rattle.srs.specs.declared.placement.Placement.{Placement}
use Rattle.srs.specs.Cells.{Cell, in_well, cells_of}
use Rattle.srs.specs.SameCells.{cell_eq, is_among}
use Rattle.well.specs.Lock.{with_cells, together}
use Rattle.fumen_digits.specs.declared.dialect.Dialect.TheVariants.{V115}
use Rattle.fumen_pages.specs.Cells.{place_of}
use Rattle.fumen_pages.specs.Next.{rows_in, empty_row, marked, is_full_page_row, without_full}

-- ---- rows as tests

-- a cell of a page holds something
abbrev is_cell : ℕ → Bool
is_cell cell = not (cell == 0)

abbrev pub row_tests : List ℕ → List Bool
row_tests row = map is_cell row

abbrev pub field_row : Field → ℕ → List Bool
field_row F y = map (λ x. F x y) columns

-- the rows of a field below a height, the top one first
unfoldable pub field_rows : Field → ℕ → List (List Bool)
field_rows F zero = []
field_rows F (suc y) = field_row F y ∷ field_rows F y

pub length-field_rows : (F : Field) (n : ℕ) → length (field_rows F n) ≡ n
unfolding field_rows
length-field_rows F zero = refl
length-field_rows F (suc n) = ap suc (length-field_rows F n)

same_row : (F G : Field) (y : ℕ) → ((x : ℕ) → F x y ≡ G x y) → field_row F y ≡ field_row G y
same_row F G y same = ap (λ (f : ℕ → Bool). map f columns) (fun_ext same)

same_rows : (F G : Field) (n : ℕ) → ((x y : ℕ) → y < n → F x y ≡ G x y) → field_rows F n ≡ field_rows G n
unfolding field_rows
same_rows F G zero same = refl
same_rows F G (suc n) same = search (rules, same_row, same_rows F G n (λ x y below. same x y (omega (arith, below))))

-- ---- a cell is filled

abbrev with_one : Field → Cell → Field
with_one F cell x y = F x y || cell_eq cell (pos x, pos y)

cell_other : (a b x y : ℕ) → (a ≡ x → b ≡ y → ⊥) → cell_eq (pos a, pos b) (pos x, pos y) ≡ false
cell_other a b x y other = search rules

cell_same : (a b : ℕ) → cell_eq (pos a, pos b) (pos a, pos b) ≡ true
cell_same a b = (cell_eq-decides (pos a, pos b) (pos a, pos b)).1 refl

other_row : (F : Field) (a b x y : ℕ) → (b ≡ y → ⊥) → F x y ≡ with_one F (pos a, pos b) x y
other_row F a b x y other = sym (or_none (F x y) _ (cell_other a b x y (λ _ same. other same)))

-- the row of the cell
filled_row : (F : Field) (a y : ℕ) → a < 10 → set (field_row F y) a true ≡ field_row (with_one F (pos a, pos y)) y
filled_row F a y column =
    search (
      rules,
      same_lists,
      length-set,
      cases_eq,
      or_right,
      cell_same,
      get_or-set_same,
      or_none,
      cell_other,
      get_or-set_other,
      columns,
      get_or-map,
      column_is,
    )

-- the rows of some cells, of which one is filled
set_rows : (F : Field) (a b value : ℕ) (n : ℕ) (cells : List ℕ) → a < 10 → b < n → 10 * n ≤ length cells → is_cell value ≡ true → map row_tests (rows_in n cells) ≡ field_rows F n
    → map row_tests (rows_in n (set cells ((n - 1 - b) * 10 + a) value)) ≡ field_rows (with_one F (pos a, pos b)) n
unfolding rows_in field_rows
set_rows F a b value zero cells column row room is same = absurd (omega (arith, row))
set_rows F a b value (suc m) cells column row room is same =
    let heads : row_tests (take 10 cells) ≡ field_row F m = ap (λ l. head_of l) same in
    let tails : map row_tests (rows_in m (drop 10 cells)) ≡ field_rows F m = ap (λ l. tail_of l) same in
    elim (cases_eq b m) [
      | inl last ↦
          let at : (suc m - 1 - b) * 10 + a ≡ a = omega (arith, last) in
          let first : row_tests (take 10 (set cells a value)) ≡ field_row (with_one F (pos a, pos m)) m =
          ap row_tests (take-set-lt 10 cells a value column) ∙ map-set is_cell (take 10 cells) a value ∙ ap (λ t. set (row_tests (take 10 cells)) a t) is
          ∙ ap (λ l. set l a true) heads ∙ filled_row F a m column in
          let rest : map row_tests (rows_in m (drop 10 (set cells a value))) ≡ field_rows (with_one F (pos a, pos m)) m =
          ap (λ l. map row_tests (rows_in m l)) (drop-set-lt 10 cells a value column) ∙ tails ∙ same_rows F (with_one F (pos a, pos m)) m (λ x y below. other_row F a m x y (λ e. absurd (omega (arith, e, below)))) in
          ap (λ i. map row_tests (rows_in (suc m) (set cells i value))) at ∙ (λ i. first i ∷ rest i) ∙ ap (λ b. field_rows (with_one F (pos a, pos b)) (suc m)) (sym last)
      | inr other ↦
          let j : ℕ = (m - 1 - b) * 10 + a in
          let below : b < m = omega (arith, other, row) in
          let at : (suc m - 1 - b) * 10 + a ≡ 10 + j = omega (arith, below) in
          let first : row_tests (take 10 (set cells (10 + j) value)) ≡ field_row (with_one F (pos a, pos b)) m =
          ap row_tests (take-set-le 10 cells (10 + j) value (omega arith)) ∙ heads ∙ same_row F (with_one F (pos a, pos b)) m (λ x. other_row F a b x m other) in
          let fewer : 10 * m ≤ length (drop 10 cells) = omega (arith, length-drop 10 cells, room) in
          let rest : map row_tests (rows_in m (drop 10 (set cells (10 + j) value))) ≡ field_rows (with_one F (pos a, pos b)) m =
          ap (λ l. map row_tests (rows_in m l)) (drop-set-add 10 cells j value) ∙ set_rows F a b value m (drop 10 cells) column below fewer is tails in
          ap (λ i. map row_tests (rows_in (suc m) (set cells i value))) at ∙ (λ i. first i ∷ rest i)
    ]
  where
    head_of : List (List Bool) → List Bool
    head_of [] = []
    head_of (row ∷ rows) = row

    tail_of : List (List Bool) → List (List Bool)
    tail_of [] = []
    tail_of (row ∷ rows) = rows

-- ---- cells of a page that show a field

-- the cells of a page hold something exactly where the field has a cell, and nothing in the garbage row
pub record Shows (cells : List ℕ) (F : Field) : Type 0 where
  pub size : length cells ≡ 240
  pub rows : map row_tests (rows_in 23 cells) ≡ field_rows F 23
  pub garbage : drop 230 cells ≡ empty_row

-- a cell of the well is filled
shows_one : (F : Field) (a b value : ℕ) (cells : List ℕ) → a ≤ 9 → b ≤ 22 → is_cell value ≡ true → Shows cells F → Shows (set cells (place_of V115 (pos a, pos b)) value) (with_one F (pos a, pos b))
shows_one F a b value cells column row is shows =
    let place : ℕ = (22 - b) * 10 + a in
    let size = shows.size in
    record {
      size = length-set cells place value ∙ size;
      rows = set_rows F a b value 23 cells (omega arith) (omega arith) (omega arith) is shows.rows;
      garbage = drop-set-lt 230 cells place value (omega arith) ∙ shows.garbage;
    }

-- ---- the cells of a list are filled

or_assoc : (a b c : Bool) → ((a || b) || c) ≡ (a || (b || c))
or_assoc a b c = search rules

with_cells-nil : (F : Field) → F ≡ with_cells F []
unfolding with_cells is_among
with_cells-nil F = fun_ext (λ x. fun_ext (λ y. sym (or_none (F x y) false refl)))

with_cells-cons : (F : Field) (cell : Cell) (cells : List Cell) → with_cells (with_one F cell) cells ≡ with_cells F (cell ∷ cells)
unfolding with_cells is_among
with_cells-cons F cell cells = fun_ext (λ x. fun_ext (λ y. or_assoc (F x y) (cell_eq cell (pos x, pos y)) (is_among cells (pos x, pos y))))

shows_all : (value : ℕ) (some : List Cell) (F : Field) (cells : List ℕ) → is_cell value ≡ true → list_all in_well some ≡ true → Shows cells F
    → Shows (fold (λ before cell. set before (place_of V115 cell) value) cells some) (with_cells F some)
shows_all value [] F cells is inside shows = subst (Shows cells) (with_cells-nil F) shows
shows_all value (cell ∷ some) F cells is inside shows =
    let parts = and_parts (in_well cell) (list_all in_well some) inside in
    let at = in_well-place cell parts.0 in
    let one : Shows (set cells (place_of V115 cell) value) (with_one F cell) =
    subst (λ (c : Cell). Shows (set cells (place_of V115 c) value) (with_one F c)) (sym at.is) (shows_one F at.x at.y value cells at.in_columns at.in_rows is shows) in
    subst (Shows (fold (λ before cell. set before (place_of V115 cell) value) cells (cell ∷ some))) (with_cells-cons F cell some)
    (shows_all value some (with_one F cell) (set cells (place_of V115 cell) value) is parts.1 one)

pub shows_marked : (F : Field) (q : Placement) (value : ℕ) (cells : List ℕ) → is_cell value ≡ true → list_all in_well (cells_of q) ≡ true → Shows cells F → Shows (marked q value cells) (together F q)
unfolding marked together with_cells
shows_marked F q value cells is inside shows = shows_all value (cells_of q) F cells is inside shows

-- ---- full rows go

abbrev stays : List Bool → Bool
stays row = not (list_all (λ t. t) row)

-- the rows of a field below a height that are not full
abbrev stay_rows : Field → ℕ → List (List Bool)
stay_rows F n = filter stays (field_rows F n)

full_row : (F : Field) (n : ℕ) → list_all (λ t. t) (field_row F n) ≡ is_full F n
unfolding is_full
full_row F n = list_all-map (λ t. t) (λ x. F x n) columns

full_page_row : (row : List ℕ) → is_full_page_row row ≡ list_all (λ t. t) (row_tests row)
full_page_row row = sym (list_all-map (λ t. t) is_cell row)

page_rows_stay : (rows : List (List ℕ)) → map row_tests (filter (λ row. not (is_full_page_row row)) rows) ≡ filter stays (map row_tests rows)
page_rows_stay [] = refl
page_rows_stay (row ∷ rows) = search (rules, cases_Bool, full_page_row, filter-true, filter-false, page_rows_stay rows)

-- the rows that stay, and how many of them there are
record Stays (F : Field) (n : ℕ) : Type 0 where
  count : length (stay_rows F n) + full_below F n ≡ n
  same : field_rows (without_full_rows F n) (length (stay_rows F n)) ≡ stay_rows F n

-- a row that stays is the row above those that are left of the rows below it
next_row : (F : Field) (n m x : ℕ) → is_full F n ≡ false → m + full_below F n ≡ n → without_full_rows F (suc n) x m ≡ F x n
unfolding without_full_rows
next_row F n m x here at = search (rules, same_from_both, lowered_from, cases_lt, left_below, lowered_to)

-- and those below it are left as they were
rows_below : (F : Field) (n x y : ℕ) → y + full_below F n < n → without_full_rows F (suc n) x y ≡ without_full_rows F n x y
rows_below F n x y below = search (rules, same_from_both, lowered_from, cases_eq, lowered_to)

full_goes : (F : Field) (n x y : ℕ) → is_full F n ≡ true → without_full_rows F (suc n) x y ≡ without_full_rows F n x y
full_goes F n x y full = search (rules, same_from_both, lowered_from, cases_eq, is_full, lowered_to)

rows_stay : (F : Field) (n : ℕ) → Stays F n
unfolding field_rows full_below
rows_stay F zero = record { count = refl; same = refl }
rows_stay F (suc n) =
    let before = rows_stay F n in
    let count = before.count in
    elim (cases_Bool (is_full F n)) [
      | inl full ↦
          let goes : stay_rows F (suc n) ≡ stay_rows F n = filter-false stays (field_row F n) (field_rows F n) (ap not (full_row F n ∙ full)) in
          let more = full_below-full F n full in
          let len : length (stay_rows F (suc n)) ≡ length (stay_rows F n) = ap length goes in
          record {
            count = omega (arith, more, len, count);
            same = ap (field_rows (without_full_rows F (suc n))) len ∙ same_rows (without_full_rows F (suc n)) (without_full_rows F n) (length (stay_rows F n)) (λ x y _. full_goes F n x y full) ∙ before.same ∙ sym goes;
          }
      | inr other ↦
          let here : stay_rows F (suc n) ≡ field_row F n ∷ stay_rows F n = filter-true stays (field_row F n) (field_rows F n) (ap not (full_row F n ∙ other)) in
          let more = full_below-other F n other in
          let len : length (stay_rows F (suc n)) ≡ suc (length (stay_rows F n)) = ap length here in
          let first : field_row (without_full_rows F (suc n)) (length (stay_rows F n)) ≡ field_row F n = ap (λ (f : ℕ → Bool). map f columns) (fun_ext (λ x. next_row F n (length (stay_rows F n)) x other count)) in
          let rest : field_rows (without_full_rows F (suc n)) (length (stay_rows F n)) ≡ stay_rows F n =
          same_rows (without_full_rows F (suc n)) (without_full_rows F n) (length (stay_rows F n)) (λ x y below. rows_below F n x y (omega (arith, below, count))) ∙ before.same in
          record {
            count = omega (arith, more, len, count);
            same = ap (field_rows (without_full_rows F (suc n))) len ∙ (λ i. first i ∷ rest i) ∙ sym here;
          }
    ]

abbrev blank : List Bool
blank = replicate 10 false

-- rows with no cell above the others
pub blank_rows : (F : Field) (k n : ℕ) → ((x y : ℕ) → n ≤ y → F x y ≡ false) → field_rows F (k + n) ≡ replicate k blank ++ field_rows F n
unfolding field_rows
blank_rows F zero n none = ap (field_rows F) (omega arith)
blank_rows F (suc k) n none =
    let there : suc k + n ≡ suc (k + n) = omega arith in
    let first : field_row F (k + n) ≡ blank = same_row F (λ x y. false) (k + n) (λ x. none x (k + n) (omega arith)) in
    ap (field_rows F) there ∙ (λ i. first i ∷ blank_rows F k n none i)

map-replicate : (k : ℕ) → map row_tests (replicate k empty_row) ≡ replicate k blank
map-replicate zero = refl
map-replicate (suc k) = ap (λ l. blank ∷ l) (map-replicate k)

-- the rows of a page without the full ones are those of the field without them
pub cleared_rows : (F : Field) (rows : List (List ℕ)) → map row_tests rows ≡ field_rows F 23 → map row_tests (without_full rows) ≡ field_rows (without_full_rows F 23) 23
unfolding without_full
cleared_rows F rows same =
    grind (
      arith,
      common_steps,
      page_rows_stay,
      length-field_rows,
      rows_stay,
      false_from_ne_true,
      left_below,
      map-append,
      map-replicate,
      blank_rows,
    )
