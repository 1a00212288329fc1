-- The field of a column, cell by cell from the lowest row up.
use Rattle.std.proofs.Common.{◌≡◌, ℕ, ◌+◌, ◌*◌, ◌<◌, ◌/◌, ◌%◌, ◌==◌, ◌&&◌, ◌||◌, Bool, true, false, nat_lt, refl, sym, ◌∙◌, inl, inr, arith, rules}
use Rattle.std.proofs.Math.Path.{fun_ext}
use Rattle.std.proofs.lemmas.Bool.{cases_lt, ltb-true, lt-ltb, le-ltb, eqb-true, eq-eqb, and_from, and_parts, and_right, or_right, false≢true}
use Rattle.lane_board.proofs.CallerLemmas.{or_none}
use Rattle.lane_board.specs.Field.{Field, empty_field, rows_below, with_cell}
use Rattle.pc_selfrun.specs.Problem.{column_field, is_left_open}

-- the cells of the field that come first
unfoldable pub cells_before : ℕ → ℕ → Field
cells_before count column x y = column_field column x y && nat_lt (y * 10 + x) count

module _ (column i : ℕ) (within : i < 40) where
  inside : (x y : ℕ) → rows_below 4 x y ≡ true → (x < 10) × (y < 4)
  unfolding rows_below
  inside x y low =
      let both = and_parts (nat_lt x 10) (nat_lt y 4) low in
      (ltb-true x 10 both.0, ltb-true y 4 both.1)

  outside : (x y : ℕ) → rows_below 4 x y ≡ false → column_field column x y ≡ false
  unfolding column_field
  outside x y out = rw (out) refl

  left_open : (x y : ℕ) → x ≡ i % 10 → is_left_open column (i % 10) ≡ true → column_field column x y ≡ false
  unfolding column_field
  left_open x y same opened = rw (same, opened) (and_right (rows_below 4 (i % 10) y) false refl)

  filled_at : (x y : ℕ) → x ≡ i % 10 → rows_below 4 x y ≡ true → is_left_open column (i % 10) ≡ false → column_field column x y ≡ true
  unfolding column_field
  filled_at x y same low closed = rw (low, same, closed) refl

  here : (x y : ℕ) → x ≡ i % 10 → y ≡ i / 10 → rows_below 4 x y ≡ true
  unfolding rows_below
  here x y column row = and_from (nat_lt x 10) (nat_lt y 4) (lt-ltb x 10 (omega (arith, column))) (lt-ltb y 4 (omega (arith, within, row)))

  -- a cell that is not the one at this place is before it exactly where it is before the next
  elsewhere : (x y : ℕ) → ((y * 10 + x ≡ i) → column_field column x y ≡ false) → cells_before i column x y ≡ cells_before (i + 1) column x y
  unfolding cells_before
  elsewhere x y none = elim (cases_lt (y * 10 + x) i) [
    | inl below ↦ rw (lt-ltb (y * 10 + x) i below, lt-ltb (y * 10 + x) (i + 1) (omega (arith, below))) refl
    | inr from ↦ elim (cases_lt i (y * 10 + x)) [
      | inl above ↦ rw (le-ltb (y * 10 + x) i from, le-ltb (y * 10 + x) (i + 1) (omega (arith, above))) refl
      | inr to ↦ rw (none (omega (arith, from, to))) refl
    ]
  ]

  passes_at : is_left_open column (i % 10) ≡ true → (x y : ℕ) → cells_before i column x y ≡ cells_before (i + 1) column x y
  passes_at opened x y = elsewhere x y (λ same. by (rows_below 4 x y) refl same) where
    by : (t : Bool) → rows_below 4 x y ≡ t → y * 10 + x ≡ i → column_field column x y ≡ false
    by false out same = outside x y out
    by true low same = let both = inside x y low in let a = both.0 in left_open x y (omega (arith, a, same)) opened

  -- an open column adds nothing
  pub passes : is_left_open column (i % 10) ≡ true → cells_before i column ≡ cells_before (i + 1) column
  passes opened = fun_ext (λ x. fun_ext (λ y. passes_at opened x y))

  other : (x y : ℕ) → (x == i % 10 && y == i / 10) ≡ false → y * 10 + x ≡ i → column_field column x y ≡ false
  other x y not_here same = by (rows_below 4 x y) refl where
    by : (t : Bool) → rows_below 4 x y ≡ t → column_field column x y ≡ false
    by false out = outside x y out
    by true low =
        let both = inside x y low in
        let a = both.0 in
        absurd (false≢true (sym not_here ∙ and_from (x == i % 10) (y == i / 10) (eq-eqb x (i % 10) (omega (arith, a, same))) (eq-eqb y (i / 10) (omega (arith, a, same)))))

  filled_before : (x y : ℕ) → x ≡ i % 10 → y ≡ i / 10 → column_field column x y ≡ true → cells_before (i + 1) column x y ≡ true
  unfolding cells_before
  filled_before x y a b filled = and_from (column_field column x y) (nat_lt (y * 10 + x) (i + 1)) filled (lt-ltb (y * 10 + x) (i + 1) (omega (arith, a, b)))

  adds_at : is_left_open column (i % 10) ≡ false → (x y : ℕ) → with_cell (cells_before i column) (i % 10) (i / 10) x y ≡ cells_before (i + 1) column x y
  unfolding with_cell
  adds_at closed x y = by (x == i % 10 && y == i / 10) refl where
    by : (t : Bool) → (x == i % 10 && y == i / 10) ≡ t → (cells_before i column x y || (x == i % 10 && y == i / 10)) ≡ cells_before (i + 1) column x y
    by true t =
        let both = and_parts (x == i % 10) (y == i / 10) t in
        let a = eqb-true x (i % 10) both.0 in
        let b = eqb-true y (i / 10) both.1 in
        or_right (cells_before i column x y) (x == i % 10 && y == i / 10) t
        ∙ sym (filled_before x y a b (filled_at x y a (here x y a b) closed))
    by false t = or_none (cells_before i column x y) (x == i % 10 && y == i / 10) t ∙ elsewhere x y (other x y t)

  -- a column that is not left open adds its cell
  pub adds : is_left_open column (i % 10) ≡ false → with_cell (cells_before i column) (i % 10) (i / 10) ≡ cells_before (i + 1) column
  adds closed = fun_ext (λ x. fun_ext (λ y. adds_at closed x y))

none_at : (column x y : ℕ) → empty_field x y ≡ cells_before 0 column x y
unfolding empty_field cells_before
none_at column x y = sym (and_right (column_field column x y) (nat_lt (y * 10 + x) 0) (le-ltb (y * 10 + x) 0 (omega arith)))

-- no cell stands before the first
pub none_before : (column : ℕ) → empty_field ≡ cells_before 0 column
none_before column = fun_ext (λ x. fun_ext (λ y. none_at column x y))

all_at : (column x y : ℕ) → cells_before 40 column x y ≡ column_field column x y
unfolding cells_before column_field rows_below
all_at column x y = search rules

-- the cells of rows 0 to 3 are the first 40
pub all_before : (column : ℕ) → cells_before 40 column ≡ column_field column
all_before column = fun_ext (λ x. fun_ext (λ y. all_at column x y))
