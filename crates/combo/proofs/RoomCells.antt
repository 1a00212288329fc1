-- Two cells of one placement, and a column in which it crosses a height.
use Rattle.std.proofs.lemmas.Grind.{common_steps}
use Rattle.std.proofs.Common.{◌≡◌, ◌≢◌, ℕ, ◌+◌, ◌-◌, ◌<◌, ◌≤◌, ℤ, pos, ◌+ℤ◌, ◌-ℤ◌, ◌≤ℤ◌, Bool, true, ◌&&◌, ◌||◌, List, [], ◌∷◌, ◌⊎◌, refl, sym, subst, ap, ◌∙◌, inl, inr, arith, rules}
use Rattle.std.specs.Prelude.{int_le, nat_abs}
use Rattle.std.specs.List.{list_all}
use Rattle.std.specs.Ordering.{int_eq}
use Rattle.std.specs.Cmp.{signed_Decides}
use Rattle.std.proofs.lemmas.Bool.{or_cases, or_right, cases_eq, cases_order}
use Rattle.std.proofs.lemmas.Int.{ints}
use Rattle.srs.proofs.CallerLemmas.{and_first, and_second, less, cell_eq-decides, has_cell-head, is_among-moved, is_among-all, each_state, in_well-place, inside_cell, int_le-true}
use Rattle.srs.specs.declared.piece.Piece.{Piece}
use Rattle.srs.specs.declared.rotation.Rotation.{Rotation}
use Rattle.srs.specs.declared.placement.Placement.{Placement}
use Rattle.srs.specs.Cells.{Cell, minus, shape, moved, cells_of, pivot_of, in_well, is_inside_of}
use Rattle.srs.specs.SameCells.{cell_eq, is_among}

-- of two offsets of a shape, one is at most three columns to the right of the other, or two in another row
abbrev near : Cell → Cell → Bool
near a b = int_le b.0 (a.0 +ℤ pos 3) && (int_eq a.1 b.1 || int_le b.0 (a.0 +ℤ pos 2))

all_near : (piece : Piece) (rotation : Rotation) → list_all (λ a. list_all (near a) (shape piece rotation)) (shape piece rotation) ≡ true
all_near = each_state (λ p r. list_all (λ a. list_all (near a) (shape p r)) (shape p r)) refl

-- whether a shape has two cells in a column, one in the row below t and one in row t
abbrev crosses_in : List Cell → ℤ → ℤ → Bool
crosses_in cells t x = is_among cells (x, t -ℤ pos 1) && is_among cells (x, t)

abbrev crosses : List Cell → ℤ → Bool
crosses cells t =
    crosses_in cells t (minus 2) || (crosses_in cells t (minus 1) || (crosses_in cells t (pos 0) || (crosses_in cells t (pos 1) || crosses_in cells t (pos 2))))

-- each row above the one cell, up to the row of the other, is crossed
abbrev climbs : List Cell → Cell → Cell → Bool
climbs cells a b = int_le b.1 (a.1 +ℤ pos 3)
    && ((int_le b.1 a.1 || crosses cells b.1)
    && ((int_le (b.1 -ℤ pos 1) a.1 || crosses cells (b.1 -ℤ pos 1)) && (int_le (b.1 -ℤ pos 2) a.1 || crosses cells (b.1 -ℤ pos 2))))

all_climb : (piece : Piece) (rotation : Rotation) → list_all (λ a. list_all (climbs (shape piece rotation) a) (shape piece rotation)) (shape piece rotation) ≡ true
unfolding is_among
all_climb = each_state (λ p r. list_all (λ a. list_all (climbs (shape p r) a) (shape p r)) (shape p r)) refl

module _ (q : Placement) where
  abbrev its_shape : List Cell
  its_shape = shape q.piece q.rotation

  abbrev offset : ℕ → ℕ → Cell
  offset x y = less (pos x, pos y) (pivot_of q)

  abbrev pub Has : ℕ → ℕ → Type 0
  Has x y = is_among (cells_of q) (pos x, pos y) ≡ true

  has_offset : (x y : ℕ) → Has x y → is_among its_shape (offset x y) ≡ true
  has_offset x y has = sym (is_among-moved (pivot_of q) its_shape (pos x, pos y)) ∙ has

  both : (test : Cell → Cell → Bool) (x y u v : ℕ) → list_all (λ a. list_all (test a) its_shape) its_shape ≡ true → Has x y → Has u v → test (offset x y) (offset u v) ≡ true
  both test x y u v all one other =
      is_among-all (test (offset x y)) its_shape (offset u v) (is_among-all (λ a. list_all (test a) its_shape) its_shape (offset x y) all (has_offset x y one)) (has_offset u v other)

  -- two cells are at most three columns apart
  pub within_three : (x y u v : ℕ) → Has x y → Has u v → u ≤ x + 3
  unfolding less
  within_three x y u v one other = search (rules, int_le-true, and_first, (both near x y u v (all_near q.piece q.rotation) one other))

  -- and two columns if they lie in different rows
  pub within_two : (x y u v : ℕ) → Has x y → Has u v → y ≢ v → u ≤ x + 2
  unfolding less
  within_two x y u v one other rows = elim (or_cases _ _ (and_second _ _ (both near x y u v (all_near q.piece q.rotation) one other))) [
    | inl same ↦ let row : (pos y -ℤ pos q.y) ≡ (pos v -ℤ pos q.y) = (signed_Decides (pos y -ℤ pos q.y) (pos v -ℤ pos q.y)).0 same in absurd (rows (omega (arith, ints, row)))
    | inr apart ↦ let two : (pos u -ℤ pos q.x) ≤ℤ ((pos x -ℤ pos q.x) +ℤ pos 2) = int_le-true _ _ apart in omega (arith, ints, two)
  ]

-- a column in which a placement has a cell in the row below a height and one in the row at it
pub record Crossing (q : Placement) (height : ℕ) : Type 0 where
  pub x : ℕ
  pub column : x ≤ 9
  pub below : is_among (cells_of q) (pos x, pos (height - 1)) ≡ true
  pub at : is_among (cells_of q) (pos x, pos height) ≡ true

crossing_in : (q : Placement) (height : ℕ) (x : ℤ) → 1 ≤ height → is_inside_of q ≡ true → crosses_in (its_shape q) (pos height -ℤ pos q.y) x ≡ true → Crossing q height
unfolding less moved
crossing_in q height x some inside crossed =
    let row : ℤ = pos height -ℤ pos q.y in
    let low : is_among (its_shape q) (x, row -ℤ pos 1) ≡ true = and_first (is_among (its_shape q) (x, row -ℤ pos 1)) (is_among (its_shape q) (x, row)) crossed in
    let high : is_among (its_shape q) (x, row) ≡ true = and_second (is_among (its_shape q) (x, row -ℤ pos 1)) (is_among (its_shape q) (x, row)) crossed in
    let lies = in_well-place _ (inside_cell q (x, row) inside high) in
    let column : pos q.x +ℤ x ≡ pos lies.x = ap (λ (c : Cell). c.0) lies.is in
    let across : pos lies.x -ℤ pos q.x ≡ x = omega (arith, ints, column) in
    let down : pos (height - 1) -ℤ pos q.y ≡ row -ℤ pos 1 = omega (arith, ints, some) in
    record {
      x = lies.x;
      column = lies.in_columns;
      below = is_among-moved (pivot_of q) (its_shape q) (pos lies.x, pos (height - 1)) ∙ ap (is_among (its_shape q)) (λ i. (across i, down i)) ∙ low;
      at = is_among-moved (pivot_of q) (its_shape q) (pos lies.x, pos height) ∙ ap (is_among (its_shape q)) (λ i. (across i, row)) ∙ high;
    }

crossing : (q : Placement) (height : ℕ) → 1 ≤ height → is_inside_of q ≡ true → crosses (its_shape q) (pos height -ℤ pos q.y) ≡ true → Crossing q height
crossing q height some inside crossed = grind (arith, common_steps, or_cases, crossing_in)

-- what is tried of a row that lies above the one cell
tried : (q : Placement) (height y : ℕ) (t : ℤ) → y < height → t ≡ pos height -ℤ pos q.y → (int_le t (pos y -ℤ pos q.y) || crosses (its_shape q) t) ≡ true → crosses (its_shape q) (pos height -ℤ pos q.y) ≡ true
tried q height y t above is test = search (rules, or_cases, int_le-true)

-- a placement with a cell below a height and one at or above it crosses the height
pub crosses_height : (q : Placement) (height x y u v : ℕ) → is_inside_of q ≡ true → Has q x y → Has q u v → y < height → height ≤ v → Crossing q height
unfolding less
crosses_height q height x y u v inside one other below above =
    let up : ℤ = pos v -ℤ pos q.y in
    let from : ℤ = pos y -ℤ pos q.y in
    let steep : Bool = int_le up (from +ℤ pos 3) in
    let one_row : Bool = int_le up from || crosses (its_shape q) up in
    let two_rows : Bool = int_le (up -ℤ pos 1) from || crosses (its_shape q) (up -ℤ pos 1) in
    let three_rows : Bool = int_le (up -ℤ pos 2) from || crosses (its_shape q) (up -ℤ pos 2) in
    let all : (steep && (one_row && (two_rows && three_rows))) ≡ true = both q (climbs (its_shape q)) x y u v (all_climb q.piece q.rotation) one other in
    let high : up ≤ℤ (from +ℤ pos 3) = int_le-true up (from +ℤ pos 3) (and_first steep (one_row && (two_rows && three_rows)) all) in
    let tests : (one_row && (two_rows && three_rows)) ≡ true = and_second steep (one_row && (two_rows && three_rows)) all in
    let later : (two_rows && three_rows) ≡ true = and_second one_row (two_rows && three_rows) tests in
    crossing q height (omega (arith, below)) inside (elim (cases_eq v height) [
      | inl same ↦ tried q height y up below (omega (arith, ints, same)) (and_first one_row (two_rows && three_rows) tests)
      | inr other_row ↦ elim (cases_eq v (height + 1)) [
        | inl same ↦ tried q height y (up -ℤ pos 1) below (omega (arith, ints, same)) (and_first two_rows three_rows later)
        | inr last_row ↦ tried q height y (up -ℤ pos 2) below (omega (arith, ints, high, below, above, other_row, last_row)) (and_second two_rows three_rows later)
      ]
    ])

-- a list of cells of the well has one at or above a height, or none
pub high_or_none : (height : ℕ) (cells : List Cell) → list_all in_well cells ≡ true
    → ((x : ℕ) × (y : ℕ) × (is_among cells (pos x, pos y) ≡ true) × (height ≤ y)) ⊎ ((x y : ℕ) → height ≤ y → is_among cells (pos x, pos y) ≡ true → ⊥)
unfolding is_among
high_or_none height [] inside = inr (λ x y above has. cc)
high_or_none height (cell ∷ cells) inside =
    let lies = in_well-place cell (and_first _ _ inside) in
    elim (cases_lt lies.y height) [
      | inl low ↦ elim (high_or_none height cells (and_second _ _ inside)) [
        | inl high ↦ inl (high.0, high.1, or_right (cell_eq cell (pos high.0, pos high.1)) _ high.2, high.3)
        | inr none ↦ inr (λ x y above has. elim (or_cases _ _ has) [
          | inl here ↦ let row = ap (λ (c : Cell). nat_abs c.1) (sym lies.is ∙ (cell_eq-decides cell (pos x, pos y)).0 here) in omega (arith, row, low, above)
          | inr later ↦ none x y above later
        ])
      ]
      | inr high ↦ inl (lies.x, lies.y, subst (λ c. is_among (cell ∷ cells) c ≡ true) lies.is (has_cell-head cell cells), high)
    ]
  where
    cases_lt : (a b : ℕ) → (a < b) ⊎ (b ≤ a)
    cases_lt a b = search (rules, cases_order)
