-- Rows that have a cell, and the rows between those of a set.
use Rattle.std.proofs.Common.{◌≡◌, ℕ, suc, ◌+◌, ◌*◌, ◌^◌, ◌<◌, ◌≤◌, Bool, true, false, not, ◌&&◌, ◌||◌, nat_lt, List, [], ◌∷◌, get_or, refl, ap, ◌∙◌, inl, inr, arith, rules}
use Rattle.std.specs.List.{list_any}
use Rattle.std.proofs.lemmas.Bool.{and_from, and_parts, both_ways, cases_Bool, cases_lt, false_from_ne_true, false≢true, lt-ltb, ltb-true}
use Rattle.std.proofs.lemmas.List.{get_or_past}
use Rattle.std.proofs.lemmas.List.Folds.{list_any_at}
use Rattle.std.proofs.lemmas.List.FromFn.{get_or-range_with_len}
use Rattle.lane_board.specs.Field.{Field}
use Rattle.lane_board.specs.FullRows.{columns}
use Rattle.lane_board.specs.Lanes.{has_bit}
use Rattle.lane_board.proofs.CallerLemmas.{column_is, has_bit-past}
use Rattle.well.specs.Counts.{is_filled_row}
use Rattle.empty_cells.specs.Empties.{cells_by_column}
use Rattle.empty_cells.proofs.CallerLemmas.{IsSmall}
use Rattle.tiled_pieces.specs.Built.{IsGone}
use Rattle.tiled_pieces.specs.Words.{eight, is_between}

or_else : (p q : Bool) → (p || q) ≡ true → p ≡ false → q ≡ true
or_else p q e none = search rules

pub any_some : (test : ℕ → Bool) (xs : List ℕ) → list_any test xs ≡ true → (x : ℕ) × (test x ≡ true)
any_some test [] e = absurd (false≢true e)
any_some test (x ∷ xs) e = elim (cases_Bool (test x)) [
  | inl here ↦ (x, here)
  | inr none ↦ any_some test xs (or_else (test x) (list_any test xs) e none)
]

any_eight : (test : ℕ → Bool) (y : ℕ) → y < 8 → test y ≡ true → list_any test eight ≡ true
any_eight test y low here = list_any_at test eight y 0 low (ap test {x = get_or eight y 0} {y = y} (get_or-range_with_len 0 8 y 0 low ∙ omega arith) ∙ here)

any_column : (test : ℕ → Bool) (x : ℕ) → x < 10 → test x ≡ true → list_any test columns ≡ true
any_column test x near here = list_any_at test columns x 0 near (ap test (column_is x near) ∙ here)

-- what is known of a cell of a set
pub record CellOf (n x y : ℕ) : Type 0 where
  pub column : x ≤ 9
  pub row : y < 8
  pub bit : has_bit n (8 * x + y) ≡ true

pub cell_of : (n x y : ℕ) → n < 2 ^ 80 → cells_by_column n x y ≡ true → CellOf n x y
unfolding cells_by_column
cell_of n x y small here =
    let both = and_parts (nat_lt y 8) (has_bit n (8 * x + y)) here in
    record {
      column = elim (cases_lt x 10) [
        | inl near ↦ omega (arith, near)
        | inr far ↦ absurd (both_ways _ (has_bit-past n 80 (8 * x + y) small (omega (arith, far))) both.1)
      ];
      row = ltb-true y 8 both.0;
      bit = both.1;
    }

pub cell_from : (n x y : ℕ) → y < 8 → has_bit n (8 * x + y) ≡ true → cells_by_column n x y ≡ true
unfolding cells_by_column
cell_from n x y low bit = and_from (nat_lt y 8) (has_bit n (8 * x + y)) (lt-ltb y 8 low) bit

pub row_some : (E : Field) (y : ℕ) → is_filled_row E y ≡ true → (x : ℕ) × (E x y ≡ true)
unfolding is_filled_row
row_some E y has = any_some (λ x. E x y) columns has

pub row_there : (E : Field) (row x : ℕ) → IsSmall 8 E → E x row ≡ true → is_filled_row E row ≡ true
unfolding is_filled_row
row_there E row x small here = any_column (λ x. E x row) x (small.column x row here) here

pub row_has : (n x y : ℕ) → n < 2 ^ 80 → cells_by_column n x y ≡ true → is_filled_row (cells_by_column n) y ≡ true
unfolding is_filled_row
row_has n x y small here = any_column (λ x. cells_by_column n x y) x (omega (arith, (cell_of n x y small here).column)) here

pub row_gone : (n y : ℕ) → n < 2 ^ 80 → is_filled_row (cells_by_column n) y ≡ false → IsGone (cells_by_column n) y
row_gone n y small none = λ x. false_from_ne_true (cells_by_column n x y) (λ here. both_ways _ none (row_has n x y small here))

pub gone_row : (E : Field) (y : ℕ) → IsGone E y → is_filled_row E y ≡ false
gone_row E y gone = false_from_ne_true (is_filled_row E y) (λ has. let some = row_some E y has in both_ways _ (gone some.0) some.1)

-- rows on both sides
pub record Between (rows : ℕ → Bool) (z : ℕ) : Type 0 where
  pub none : rows z ≡ false
  pub y : ℕ
  pub lower : rows y ≡ true
  pub below : y < z
  pub v : ℕ
  pub upper : rows v ≡ true
  pub above : z < v

is_false : (b : Bool) → not b ≡ true → b ≡ false
is_false b e = search rules

is_not : (b : Bool) → b ≡ false → not b ≡ true
is_not b e = search rules

pub between_some : (rows : ℕ → Bool) (z : ℕ) → is_between rows z ≡ true → Between rows z
unfolding is_between
between_some rows z is =
    let all = and_parts (not (rows z)) (list_any (λ y. rows y && nat_lt y z) eight && list_any (λ v. rows v && nat_lt z v) eight) is in
    let both = and_parts (list_any (λ y. rows y && nat_lt y z) eight) (list_any (λ v. rows v && nat_lt z v) eight) all.1 in
    let lower = any_some (λ y. rows y && nat_lt y z) eight both.0 in
    let upper = any_some (λ v. rows v && nat_lt z v) eight both.1 in
    let low = and_parts (rows lower.0) (nat_lt lower.0 z) lower.1 in
    let high = and_parts (rows upper.0) (nat_lt z upper.0) upper.1 in
    record {
      none = is_false (rows z) all.0;
      y = lower.0;
      lower = low.0;
      below = ltb-true lower.0 z low.1;
      v = upper.0;
      upper = high.0;
      above = ltb-true z upper.0 high.1;
    }

pub between_has : (rows : ℕ → Bool) (y z v : ℕ) → rows z ≡ false → rows y ≡ true → rows v ≡ true → y < z → z < v → v < 8 → is_between rows z ≡ true
unfolding is_between
between_has rows y z v none lower upper below above low =
    and_from _ _ (is_not (rows z) none)
    (and_from _ _ (any_eight (λ y. rows y && nat_lt y z) y (omega (arith, below, above, low)) (and_from _ _ lower (lt-ltb y z below)))
    (any_eight (λ v. rows v && nat_lt z v) v low (and_from _ _ upper (lt-ltb z v above))))

pub between_same : (rows others : ℕ → Bool) (z : ℕ) → z < 8 → ((y : ℕ) → y < 8 → rows y ≡ others y) → is_between rows z ≡ is_between others z
unfolding is_between
between_same rows others z low same =
    ap (λ b. not b && (list_any (λ y. rows y && nat_lt y z) eight && list_any (λ v. rows v && nat_lt z v) eight)) (same z low)
    ∙ ap (λ b. not (others z) && (b && list_any (λ v. rows v && nat_lt z v) eight)) (any_same (λ y. rows y && nat_lt y z) (λ y. others y && nat_lt y z) (λ y low. ap (λ b. b && nat_lt y z) (same y low)))
    ∙ ap (λ b. not (others z) && (list_any (λ y. others y && nat_lt y z) eight && b)) (any_same (λ v. rows v && nat_lt z v) (λ v. others v && nat_lt z v) (λ v low. ap (λ b. b && nat_lt z v) (same v low)))
  where
    each_same : (f g : ℕ → Bool) (xs : List ℕ) → ((i : ℕ) → f (get_or xs i 0) ≡ g (get_or xs i 0)) → list_any f xs ≡ list_any g xs
    each_same f g [] same = refl
    each_same f g (x ∷ xs) same = ap (λ b. b || list_any f xs) (same 0) ∙ ap (λ b. g x || b) (each_same f g xs (λ i. same (suc i)))

    is_low : (i : ℕ) → get_or eight i 0 < 8
    is_low i = elim (cases_lt i 8) [
      | inl low ↦ omega (arith, get_or-range_with_len 0 8 i 0 low)
      | inr high ↦ omega (arith, get_or_past eight i 0 high)
    ]

    any_same : (f g : ℕ → Bool) → ((y : ℕ) → y < 8 → f y ≡ g y) → list_any f eight ≡ list_any g eight
    any_same f g same = each_same f g eight (λ i. same (get_or eight i 0) (is_low i))
