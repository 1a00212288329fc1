-- The empty cells column by column: how many there are, and how many cells of a tiling stand there.
use Rattle.std.proofs.Common.{◌≡◌, ◌≢◌, ◌⊎◌, ℕ, zero, suc, ◌+◌, ◌*◌, ◌<◌, ◌≤◌, Bool, true, false, not, cond, ◌&&◌, ◌||◌, ◌==◌, List, [], ◌∷◌, ◌++◌, pos, nat_abs, nat_lt, nat_le, refl, sym, ap, ◌∙◌, arith, rules}
use Rattle.std.specs.Prelude.{sum_by, count_by}
use Rattle.std.specs.List.{list_all, range_with_len}
use Rattle.std.specs.Cmp.{both_ways}
use Rattle.std.proofs.lemmas.Bool.{cases_Bool, cases_eq, cond-true, cond-false, and_parts, and_from, and_right, false_from_ne_true, ltb-true, lt-ltb, leb-true, le-leb, eqb-true, eq-eqb, or_cases, or_left, or_right, true≢false, not-true}
use Rattle.std.proofs.lemmas.List.Sums.{sum_by-cons, sum_by_push}
use Rattle.std.proofs.Math.Bool.{and-true}
use Rattle.lane_board.specs.Field.{Field}
use Rattle.lane_board.specs.CellCount.{row_count, cell_count}
use Rattle.srs.specs.Cells.{Cell}
use Rattle.srs.specs.SameCells.{cell_eq}
use Rattle.srs.proofs.CallerLemmas.{cell_eq-decides}
use Rattle.well.specs.Counts.{empties_below}
use Rattle.prune.specs.Tiling.{is_empty_below}
use Rattle.prune.specs.Counts.{column_empties}
use Rattle.prune.proofs.CellCounts.{count_in, count-agree, count-none}
use Rattle.prune.proofs.EmptyCells.{EmptyCell, empty_cell, is_empty_at}

pub range_more : (from n : ℕ) → range_with_len from (suc n) ≡ range_with_len from n ++ (from + n) ∷ []
range_more from zero = let e : from + 0 ≡ from = omega arith in ap (λ k. k ∷ []) (sym e)
range_more from (suc n) = let e : from + 1 + n ≡ from + suc n = omega arith in ap (λ rest. from ∷ rest) (range_more (from + 1) n) ∙ ap (λ k. from ∷ (range_with_len (from + 1) n ++ k ∷ [])) e

-- one row more
pub column_empties-suc : (F : Field) (n x : ℕ) → column_empties F (suc n) x ≡ column_empties F n x + cond (not (F x n)) 1 0
unfolding column_empties
column_empties-suc F n x = search (rules, (range_more 0 n), (sum_by_push (λ y. cond (not (F x y)) 1 0) (range_with_len 0 n) (0 + n)))

pub column_empties-zero : (F : Field) (x : ℕ) → column_empties F 0 x ≡ 0
unfolding column_empties
column_empties-zero F x = refl

pub column_empties-le : (F : Field) (n x : ℕ) → column_empties F n x ≤ n
column_empties-le F zero x = omega (arith, column_empties-zero F x)
column_empties-le F (suc n) x =
    search (rules, cases_Bool, column_empties-suc, cond-true, cond-false, (column_empties-le F n x))

-- a row has ten cells, of which some are filled and the others empty
one_each : (b : Bool) → ◌≡◌ {A = ℕ} (cond (not b) 1 0 + cond b 1 0) 1
one_each b = search rules

-- the empty cells of the ten columns are those of all rows
pub all_columns : (F : Field) (n : ℕ) → sum_by (column_empties F n) (range_with_len 0 10) + cell_count F n ≡ 10 * n
unfolding cell_count row_count
all_columns F zero = omega (arith, column_empties-zero F 0, column_empties-zero F 1, column_empties-zero F 2, column_empties-zero F 3, column_empties-zero F 4, column_empties-zero F 5, column_empties-zero F 6, column_empties-zero F 7, column_empties-zero F 8, column_empties-zero F 9)
all_columns F (suc n) = search (rules, column_empties-suc, one_each, (all_columns F n))

pub all_empties : (F : Field) (n : ℕ) → sum_by (column_empties F n) (range_with_len 0 10) ≡ empties_below F n
all_empties F n = omega (arith, all_columns F n)

-- a test that passes where one of two others does, which never pass together
count-either : {X : Type 0} (p q r ok : X → Bool) (xs : List X) → list_all ok xs ≡ true → ((x : X) → ok x ≡ true → p x ≡ (q x || r x)) → ((x : X) → (q x && r x) ≡ false) → count_by p xs ≡ count_by q xs + count_by r xs
count-either p q r ok [] all either apart = refl
count-either p q r ok (x ∷ xs) all either apart =
    search (rules, (sum_by-cons (λ x. cond (p x) 1 0) x xs), (sum_by-cons (λ x. cond (q x) 1 0) x xs), (sum_by-cons (λ x. cond (r x) 1 0) x xs), (and_parts (ok x) (list_all ok xs) all), (count-either p q r ok xs (and_parts (ok x) (list_all ok xs) all).1 either apart), true≢false)

abbrev pub column_of : Cell → ℕ
column_of cell = nat_abs cell.0

abbrev row_of : Cell → ℕ
row_of cell = nat_abs cell.1

-- the cells of the columns from `first` on, so many
abbrev pub in_columns : ℕ → ℕ → Cell → Bool
in_columns first n cell = nat_le first (column_of cell) && nat_lt (column_of cell) (first + n)

-- the cells are the empty cells below a row, each once
module _ (F : Field) (rows : ℕ) (cells : List Cell) (empty : list_all (is_empty_below F rows) cells ≡ true) (once : (cell : Cell) → count_in cells cell ≡ cond (is_empty_below F rows cell) 1 0) where
  in_column : ℕ → ℕ → Cell → Bool
  in_column x n cell = column_of cell == x && nat_lt (row_of cell) n

  column_count : (x n : ℕ) → x < 10 → n ≤ rows → count_by (in_column x n) cells ≡ column_empties F n x
  unfolding in_column count_in
  column_count x zero column below =
      search (rules, count-none, and_right, column_empties-zero, false_from_ne_true, ltb-true)
  column_count x (suc n) column below =
      count-either (in_column x (suc n)) (in_column x n) (λ c. cell_eq c (pos x, pos n)) (is_empty_below F rows) cells empty either apart
      ∙ added (count_by (in_column x n) cells) (column_empties F n x) (count_by (λ c. cell_eq c (pos x, pos n)) cells) _ (column_count x n column (omega arith)) (once (pos x, pos n) ∙ ap (λ b. cond b 1 0) here)
      ∙ sym (column_empties-suc F n x)
    where
      added : (a b c d : ℕ) → a ≡ b → c ≡ d → a + c ≡ b + d
      added a b c d e g = omega arith

      here : is_empty_below F rows (pos x, pos n) ≡ not (F x n)
      here = search (rules, (empty_cell F rows (pos x, pos n)), (is_empty_at F rows x n column), (not-true (F x n)))

      apart : (c : Cell) → (in_column x n c && cell_eq c (pos x, pos n)) ≡ false
      apart c = search (rules, false_from_ne_true, and_parts, ltb-true, cell_eq-decides)

      either : (c : Cell) → is_empty_below F rows c ≡ true → in_column x (suc n) c ≡ (in_column x n c || cell_eq c (pos x, pos n))
      either c ok = both_ways _ _ there back
        where
          there : in_column x (suc n) c ≡ true → (in_column x n c || cell_eq c (pos x, pos n)) ≡ true
          there h = search (rules, and_parts, empty_cell, ltb-true, cases_eq, split)
            where
              split : (column_of c == x) ≡ true → row_of c < suc n → (row_of c ≡ n) ⊎ (row_of c ≢ n) → EmptyCell F rows c → (in_column x n c || cell_eq c (pos x, pos n)) ≡ true
              split column low h2 e = search (rules, eqb-true, or_right, cell_eq-decides, or_left, and_from, lt-ltb)

          back : (in_column x n c || cell_eq c (pos x, pos n)) ≡ true → in_column x (suc n) c ≡ true
          back h = search (rules, or_cases, and_parts, and_from, lt-ltb, ltb-true, cell_eq-decides, eq-eqb, here)

  -- as many of the cells stand in a column as it has empty cells
  pub one_column : (x : ℕ) → x < 10 → count_by (λ c. column_of c == x) cells ≡ column_empties F rows x
  unfolding in_column
  one_column x column =
      search (rules, (count-agree (λ c. column_of c == x) (in_column x rows) (is_empty_below F rows) cells empty), (column_count x rows column), (empty_cell F rows), lt-ltb, and-true)

  -- as many of the cells stand in neighbouring columns as these have empty cells
  pub columns_count : (first n : ℕ) → first + n ≤ 10 → count_by (in_columns first n) cells ≡ sum_by (column_empties F rows) (range_with_len first n)
  columns_count first zero within = search (rules, count-none, false_from_ne_true, and_parts, leb-true, ltb-true)
  columns_count first (suc n) within =
      let one = one_column first (omega arith) in
      let more = columns_count (first + 1) n (omega arith) in
      search (rules, (count-either (in_columns first (suc n)) (λ c. column_of c == first) (in_columns (first + 1) n) (is_empty_below F rows) cells empty), (sum_by-cons (column_empties F rows) first (range_with_len (first + 1) n)), nat_lt, and_parts, leb-true, ltb-true, cases_eq, or_cases, or_left, eq-eqb, or_right, and_from, le-leb, lt-ltb, eqb-true, false_from_ne_true)

-- a column with an empty cell isn't without one
pub column_empties-some : (F : Field) (n x y : ℕ) → y < n → F x y ≡ false → 1 ≤ column_empties F n x
column_empties-some F zero x y below empty = absurd (omega arith)
column_empties-some F (suc n) x y below empty =
    search (rules, cases_eq, column_empties-suc, cond-true, (column_empties-some F n x y))
