-- Spans can be stacked exactly where rows can be chosen for them.
use Rattle.std.proofs.Common.{◌≡◌, ℕ, zero, suc, ◌+◌, ◌<◌, ◌≤◌, Bool, true, false, ◌&&◌, ◌==◌, nat_lt, List, [], ◌∷◌, length, refl, sym, subst, ◌∙◌, inl, inr, arith, rules}
use Rattle.std.specs.List.{list_any}
use Rattle.std.proofs.lemmas.Bool.{cases_Bool, cases_lt, and_parts, and_from, and_right, or_cases, or_left, or_right, cond-true, cond-false, not_from_false, eqb-true, eq-eqb, lt-ltb, le-ltb, ne_eqb, false≢true, both_ways}
use Rattle.lane_board.specs.Field.{Field}
use Rattle.empty_cells.specs.declared.span.Span.{Span}
use Rattle.empty_cells.specs.Spans.{columns_of, has_first, has_span, without_span}
use Rattle.empty_cells.specs.Stacks.{MayTake, Stacks, is_allowed, in_stack, without_stack}
use Rattle.empty_cells.proofs.StackLemmas.{Rises, IsWithin, Follows, Chosen, in_columns, all_columns, row_of, without_each, without_none, first_then}

-- a cell that is left was one
pub was_there : (E : Field) (x : ℕ) (span : Span) (row a b : ℕ) → without_span E x span row a b ≡ true → E a b ≡ true
unfolding without_span
was_there E x span row a b left = (and_parts (E a b) _ left).0

-- the cells of a span that fits are cells of the set
span_inside : (E : Field) (x : ℕ) (span : Span) (row a b : ℕ) → has_span E x span row ≡ true → (list_any (λ column. x + column == a) (columns_of span) && (row == b)) ≡ true → E a b ≡ true
unfolding has_span
span_inside E x span row a b has here = search (rules, and_parts, eqb-true, in_columns)

pub chosen : (allowed : ℕ → Span → ℕ → Bool) (Fact : Field → Type 0) (E : Field) (x floor : ℕ) (spans : List Span) → Stacks allowed Fact E x floor spans → Chosen Fact E x floor spans
unfolding Stacks in_stack
chosen allowed Fact E x floor [] fact = search (rules, false≢true, (without_none E x (λ k. k)))
chosen allowed Fact E x floor (span ∷ spans) taken =
    let row = taken.0 in
    let may = taken.1 in
    let later = chosen allowed Fact (without_span E x span row) x (row + 1) spans taken.2 in
    record {
      rows = first_then row later.rows;
      rises = record { rising = rising row later.rows later.rises later.above };
      above = above row later.rows may.above later.above;
      within = record {
        inside = λ a b here. elim (or_cases (list_any (λ column. x + column == a) (columns_of span) && (row == b)) (in_stack x later.rows spans a b) here) [
          | inl first ↦ span_inside E x span row a b may.has first
          | inr other ↦ was_there E x span row a b (later.within.inside a b other)
        ];
      };
      rest = subst Fact (without_each E x (first_then row later.rows) span spans) later.rest;
    }
  where
    rising : (row : ℕ) (rows : ℕ → ℕ) → Rises rows (length spans) → ((k : ℕ) → k < length spans → row + 1 ≤ rows k) → (j k : ℕ) → j < k → k < length (span ∷ spans) → first_then row rows j < first_then row rows k
    rising row rows rises above j zero less below = absurd (omega arith)
    rising row rows rises above zero (suc k) less below = omega (arith, above k (omega arith))
    rising row rows rises above (suc j) (suc k) less below = rises.rising j k (omega arith) (omega arith)

    above : (row : ℕ) (rows : ℕ → ℕ) → floor ≤ row → ((k : ℕ) → k < length spans → row + 1 ≤ rows k) → (k : ℕ) → k < length (span ∷ spans) → floor ≤ first_then row rows k
    above row rows low later zero below = low
    above row rows low later (suc k) below = omega (arith, later k (omega arith))

pub stacked : (allowed : ℕ → Span → ℕ → Bool) (Fact : Field → Type 0) (E : Field) (x floor : ℕ) (rows : ℕ → ℕ) (spans : List Span) → Rises rows (length spans) →
    ((k : ℕ) → k < length spans → floor ≤ rows k) → IsWithin E x rows spans → Follows allowed floor rows spans → Fact (without_stack E x rows spans) → Stacks allowed Fact E x floor spans
unfolding Stacks Follows has_span without_span in_stack
stacked allowed Fact E x floor rows [] rises above within follows fact = subst Fact (without_none E x rows) fact
stacked allowed Fact E x floor rows (span ∷ spans) rises above within follows fact = (
  rows 0,
  may,
  stacked allowed Fact (without_span E x span (rows 0)) x (rows 0 + 1) (λ k. rows (suc k)) spans
      (record { rising = λ j k less below. rises.rising (suc j) (suc k) (omega arith) (omega arith) })
      (λ k below. omega (arith, rises.rising 0 (suc k) (omega arith) (omega arith)))
      (record { inside = inside })
      follows.1
      (subst Fact (sym (without_each E x rows span spans)) fact),
)
  where
    head_inside : (a : ℕ) → list_any (λ column. x + column == a) (columns_of span) ≡ true → E a (rows 0) ≡ true
    head_inside a here = within.inside a (rows 0) (or_left (list_any (λ column. x + column == a) (columns_of span) && (rows 0 == rows 0)) _ (and_from _ _ here (eq-eqb (rows 0) (rows 0) refl)))

    has : has_span E x span (rows 0) ≡ true
    has = all_columns (columns_of span) x (λ a. E a (rows 0)) head_inside

    may : MayTake allowed E x floor span (rows 0)
    may = record { above = above 0 (omega arith); permitted = follows.0; has = has }

    inside : (a b : ℕ) → in_stack x (λ k. rows (suc k)) spans a b ≡ true → without_span E x span (rows 0) a b ≡ true
    inside a b here =
        let row = row_of x (λ k. rows (suc k)) spans a b here in
        let later : rows 0 < b = omega (arith, rises.rising 0 (suc row.0) (omega arith) (omega (arith, row.1)), row.2) in
        and_from _ _ (within.inside a b (or_right (list_any (λ column. x + column == a) (columns_of span) && (rows 0 == b)) _ here))
        (not_from_false _ (and_right (list_any (λ column. x + column == a) (columns_of span)) _ (ne_eqb (rows 0) b (λ e. omega arith))))

-- every choice is allowed where nothing is asked
pub follows-all : (floor : ℕ) (rows : ℕ → ℕ) (spans : List Span) → Follows (λ floor span row. true) floor rows spans
unfolding Follows
follows-all floor rows [] = tt
follows-all floor rows (span ∷ spans) = (refl, follows-all (rows 0 + 1) (λ k. rows (suc k)) spans)

-- once the rows start above y, all is allowed
follows-above : (y floor : ℕ) (rows : ℕ → ℕ) (spans : List Span) → y < floor → Rises rows (length spans) → ((k : ℕ) → k < length spans → floor ≤ rows k) → Follows (is_allowed y) floor rows spans
unfolding Follows
follows-above y floor rows [] over rises above = tt
follows-above y floor rows (span ∷ spans) over rises above = (
  cond-true (nat_lt y floor) _ _ (lt-ltb y floor over),
  follows-above y (rows 0 + 1) (λ k. rows (suc k)) spans (omega (arith, above 0 (omega arith)))
      (record { rising = λ j k less below. rises.rising (suc j) (suc k) (omega arith) (omega arith) })
      (λ k below. omega (arith, rises.rising 0 (suc k) (omega arith) (omega arith))),
)

first_of_columns : (columns : List ℕ) (x : ℕ) → list_any (λ column. x + column == x) columns ≡ list_any (λ column. column == 0) columns
first_of_columns columns x = search (rules, eq-eqb, ne_eqb)

-- rows of spans that cover the first cell are allowed
pub follows-first : (E : Field) (x y floor : ℕ) (rows : ℕ → ℕ) (spans : List Span) → ((b : ℕ) → b < y → E x b ≡ false) → Rises rows (length spans) → ((k : ℕ) → k < length spans → floor ≤ rows k) →
    IsWithin E x rows spans → in_stack x rows spans x y ≡ true → Follows (is_allowed y) floor rows spans
unfolding Follows in_stack
follows-first E x y floor rows [] lowest rises above within here = tt
follows-first E x y floor rows (span ∷ spans) lowest rises above within here = elim (cases_lt y floor) [
  | inl over ↦ follows-above y floor rows (span ∷ spans) over rises above
  | inr under ↦ elim (cases_Bool (has_first span)) [
    | inl first ↦
        let takes : rows 0 ≡ y = takes_first first in (
          cond-false (nat_lt y floor) _ _ (le-ltb y floor under) ∙ cond-true (has_first span) _ _ first ∙ eq-eqb (rows 0) y takes,
          follows-above y (rows 0 + 1) (λ k. rows (suc k)) spans (omega arith) rises' above',
        )
    | inr other ↦
        let below : rows 0 < y = lies_below (later other) in (
          cond-false (nat_lt y floor) _ _ (le-ltb y floor under) ∙ cond-false (has_first span) _ _ other ∙ lt-ltb (rows 0) y below,
          follows-first E x y (rows 0 + 1) (λ k. rows (suc k)) spans lowest rises' above'
              (record { inside = λ a b there. within.inside a b (or_right (list_any (λ column. x + column == a) (columns_of span) && (rows 0 == b)) _ there) })
              (later other),
        )
  ]
]
  where
    rises' : Rises (λ k. rows (suc k)) (length spans)
    rises' = record { rising = λ j k less below. rises.rising (suc j) (suc k) (omega arith) (omega arith) }

    above' : (k : ℕ) → k < length spans → rows 0 + 1 ≤ rows (suc k)
    above' k below = omega (arith, rises.rising 0 (suc k) (omega arith) (omega arith))

    lies_below : in_stack x (λ k. rows (suc k)) spans x y ≡ true → rows 0 < y
    lies_below there = let row = row_of x (λ k. rows (suc k)) spans x y there in omega (arith, rises.rising 0 (suc row.0) (omega arith) (omega (arith, row.1)), row.2)

    later : has_first span ≡ false → in_stack x (λ k. rows (suc k)) spans x y ≡ true
    later other = search (rules, (or_cases (list_any (λ column. x + column == x) (columns_of span) && (rows 0 == y))), (both_ways (has_first span) other), (first_of_columns (columns_of span) x), and_parts)

    takes_first : has_first span ≡ true → rows 0 ≡ y
    takes_first first =
        let filled : E x (rows 0) ≡ true = within.inside x (rows 0) (or_left (list_any (λ column. x + column == x) (columns_of span) && (rows 0 == rows 0)) _ (and_from _ _ (first_of_columns (columns_of span) x ∙ first) (eq-eqb (rows 0) (rows 0) refl))) in
        elim (cases_lt (rows 0) y) [
          | inl low ↦ absurd (both_ways (E x (rows 0)) (lowest (rows 0) low) filled)
          | inr high ↦ elim (or_cases (list_any (λ column. x + column == x) (columns_of span) && (rows 0 == y)) _ here) [
            | inl head ↦ eqb-true (rows 0) y (and_parts (list_any (λ column. x + column == x) (columns_of span)) _ head).1
            | inr tail ↦ absurd (omega (arith, lies_below tail))
          ]
        ]
