-- The field of a page, cell by cell in the order of the page's cells.
use Rattle.std.proofs.Common.{◌≡◌, ℕ, ◌+◌, ◌-◌, ◌*◌, ◌<◌, ◌/◌, ◌%◌, ◌==◌, ◌&&◌, ◌||◌, Bool, true, false, nat_lt, refl, sym, ◌∙◌, inl, inr, arith, rules}
use Rattle.std.specs.Prelude.{slice_index}
use Rattle.std.proofs.Math.Path.{fun_ext}
use Rattle.std.proofs.lemmas.Bool.{cases_lt, ltb-true, lt-ltb, le-ltb, eqb-true, eq-eqb, and_from, and_parts, and_right, or_right, false≢true}
use Rattle.lane_board.proofs.CallerLemmas.{or_none}
use Rattle.lane_board.specs.Field.{Field, empty_field, rows_below, with_cell}
use Rattle.fumen_pages.specs.declared.page.Page.{Page}
use Rattle.pc_source.specs.FieldText.{page_cells}

-- the cells of a page's field that stand among its first cells
unfoldable pub cells_before : ℕ → Page → Field
cells_before count page x y = page_cells page x y && nat_lt ((22 - y) * 10 + x) count

module _ (page : Page) (i : ℕ) (within : i < 230) where
  -- out of the well there is no cell
  outside : (x y : ℕ) → rows_below 23 x y ≡ false → page_cells page x y ≡ false
  unfolding page_cells
  outside x y out = rw (out) refl

  is_empty : (x y : ℕ) → (22 - y) * 10 + x ≡ i → (slice_index page.cells i == 0) ≡ true → page_cells page x y ≡ false
  unfolding page_cells
  is_empty x y here none = rw (here, none) (and_right (rows_below 23 x y) false refl)

  is_filled : (x y : ℕ) → rows_below 23 x y ≡ true → (22 - y) * 10 + x ≡ i → (slice_index page.cells i == 0) ≡ false → page_cells page x y ≡ true
  unfolding page_cells
  is_filled x y inside here some = rw (inside, here, some) refl

  passes_at : (slice_index page.cells i == 0) ≡ true → (x y : ℕ) → cells_before i page x y ≡ cells_before (i + 1) page x y
  unfolding cells_before
  passes_at none x y = elim (cases_lt ((22 - y) * 10 + x) i) [
    | inl below ↦ rw (lt-ltb ((22 - y) * 10 + x) i below, lt-ltb ((22 - y) * 10 + x) (i + 1) (omega (arith, below))) refl
    | inr from ↦ elim (cases_lt i ((22 - y) * 10 + x)) [
      | inl above ↦ rw (le-ltb ((22 - y) * 10 + x) i from, le-ltb ((22 - y) * 10 + x) (i + 1) (omega (arith, above))) refl
      | inr to ↦ rw (is_empty x y (omega (arith, from, to)) none) refl
    ]
  ]

  -- an empty cell adds nothing
  pub passes : (slice_index page.cells i == 0) ≡ true → cells_before i page ≡ cells_before (i + 1) page
  passes none = fun_ext (λ x. fun_ext (λ y. passes_at none x y))

  here : (x y : ℕ) → x ≡ i % 10 → y ≡ 22 - i / 10 → (22 - y) * 10 + x ≡ i
  here x y column row = omega (arith, within, column, row)

  inside : (x y : ℕ) → x ≡ i % 10 → y ≡ 22 - i / 10 → rows_below 23 x y ≡ true
  unfolding rows_below
  inside x y column row = and_from (nat_lt x 10) (nat_lt y 23) (lt-ltb x 10 (omega (arith, column))) (lt-ltb y 23 (omega (arith, row)))

  elsewhere : (x y : ℕ) → (x == i % 10 && y == 22 - i / 10) ≡ false → (22 - y) * 10 + x ≡ i → rows_below 23 x y ≡ false
  unfolding rows_below
  elsewhere x y other same = by (nat_lt x 10) (nat_lt y 23) refl refl where
    by : (a b : Bool) → nat_lt x 10 ≡ a → nat_lt y 23 ≡ b → (nat_lt x 10 && nat_lt y 23) ≡ false
    by true true column row =
        let c = ltb-true x 10 column in
        let r = ltb-true y 23 row in
        absurd (false≢true (sym other ∙ and_from (x == i % 10) (y == 22 - i / 10) (eq-eqb x (i % 10) (omega (arith, c, r, same))) (eq-eqb y (22 - i / 10) (omega (arith, c, r, same)))))
    by false b column row = rw (column) refl
    by true false column row = rw (column, row) refl

  adds_at : (slice_index page.cells i == 0) ≡ false → (x y : ℕ) → with_cell (cells_before i page) (i % 10) (22 - i / 10) x y ≡ cells_before (i + 1) page x y
  unfolding cells_before with_cell
  adds_at some x y = by (x == i % 10 && y == 22 - i / 10) refl where
    by : (t : Bool) → (x == i % 10 && y == 22 - i / 10) ≡ t
        → ((page_cells page x y && nat_lt ((22 - y) * 10 + x) i) || (x == i % 10 && y == 22 - i / 10)) ≡ (page_cells page x y && nat_lt ((22 - y) * 10 + x) (i + 1))
    by true t =
        let both = and_parts (x == i % 10) (y == 22 - i / 10) t in
        let column = eqb-true x (i % 10) both.0 in
        let row = eqb-true y (22 - i / 10) both.1 in
        let same = here x y column row in
        let filled = is_filled x y (inside x y column row) same some in
        or_right (page_cells page x y && nat_lt ((22 - y) * 10 + x) i) (x == i % 10 && y == 22 - i / 10) t
        ∙ sym (and_from (page_cells page x y) (nat_lt ((22 - y) * 10 + x) (i + 1)) filled (lt-ltb ((22 - y) * 10 + x) (i + 1) (omega (arith, same))))
    by false t = or_none (page_cells page x y && nat_lt ((22 - y) * 10 + x) i) (x == i % 10 && y == 22 - i / 10) t ∙ (elim (cases_lt ((22 - y) * 10 + x) i) [
      | inl below ↦ rw (lt-ltb ((22 - y) * 10 + x) i below, lt-ltb ((22 - y) * 10 + x) (i + 1) (omega (arith, below))) refl
      | inr from ↦ elim (cases_lt i ((22 - y) * 10 + x)) [
        | inl above ↦ rw (le-ltb ((22 - y) * 10 + x) i from, le-ltb ((22 - y) * 10 + x) (i + 1) (omega (arith, above))) refl
        | inr to ↦ rw (outside x y (elsewhere x y t (omega (arith, from, to)))) refl
      ]
    ])

  -- a cell that isn't empty adds its place
  pub adds : (slice_index page.cells i == 0) ≡ false → with_cell (cells_before i page) (i % 10) (22 - i / 10) ≡ cells_before (i + 1) page
  adds some = fun_ext (λ x. fun_ext (λ y. adds_at some x y))

none_at : (page : Page) (x y : ℕ) → empty_field x y ≡ cells_before 0 page x y
unfolding empty_field cells_before
none_at page x y = sym (and_right (page_cells page x y) (nat_lt ((22 - y) * 10 + x) 0) (le-ltb ((22 - y) * 10 + x) 0 (omega arith)))

-- no cell stands before the first
pub none_before : (page : Page) → empty_field ≡ cells_before 0 page
none_before page = fun_ext (λ x. fun_ext (λ y. none_at page x y))

all_at : (page : Page) (x y : ℕ) → cells_before 230 page x y ≡ page_cells page x y
unfolding cells_before page_cells rows_below
all_at page x y = search rules

-- the cells of rows 0 to 22 are the first 230
pub all_before : (page : Page) → cells_before 230 page ≡ page_cells page
all_before page = fun_ext (λ x. fun_ext (λ y. all_at page x y))
