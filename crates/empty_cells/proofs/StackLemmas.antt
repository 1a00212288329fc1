-- Stacks of spans, and the rows that were chosen for them.
use Rattle.std.proofs.Common.{◌≡◌, ℕ, zero, suc, ◌+◌, ◌<◌, ◌≤◌, Bool, true, not, ◌&&◌, ◌||◌, ◌==◌, List, [], ◌∷◌, length, refl, rules}
use Rattle.std.proofs.Math.Path.{fun_ext}
use Rattle.std.specs.List.{list_any, list_all}
use Rattle.std.proofs.lemmas.Bool.{and_parts, and_from, or_cases, or_left, or_right, eqb-true, eq-eqb, false≢true}
use Rattle.std.proofs.Math.Bool.{and-true}
use Rattle.lane_board.specs.Field.{Field}
use Rattle.empty_cells.specs.declared.span.Span.{Span}
use Rattle.empty_cells.specs.declared.span.Span.TheVariants.{First, Second, Third, FirstTwo, SecondTwo, FirstThree, AllFour}
use Rattle.empty_cells.specs.Spans.{columns_of, has_span, without_span}
use Rattle.empty_cells.specs.Stacks.{in_stack, without_stack}

-- rows rise from the lowest span up
pub record Rises (rows : ℕ → ℕ) (count : ℕ) : Type 0 where
  pub rising : (j k : ℕ) → j < k → k < count → rows j < rows k

-- each cell of the spans is one of the set
pub record IsWithin (E : Field) (x : ℕ) (rows : ℕ → ℕ) (spans : List Span) : Type 0 where
  pub inside : (a b : ℕ) → in_stack x rows spans a b ≡ true → E a b ≡ true

-- the cells of the set lie in columns 0 to 9, below a row
pub record IsSmall (height : ℕ) (E : Field) : Type 0 where
  pub column : (a b : ℕ) → E a b ≡ true → a < 10
  pub row : (a b : ℕ) → E a b ≡ true → b < height

-- the rows that were chosen are allowed
unfoldable pub Follows : (ℕ → Span → ℕ → Bool) → ℕ → (ℕ → ℕ) → List Span → Type 0
Follows allowed floor rows [] = Unit {0}
Follows allowed floor rows (span ∷ spans) = (allowed floor span (rows 0) ≡ true) × Follows allowed (rows 0 + 1) (λ k. rows (suc k)) spans

-- the rows that were chosen for stacked spans
pub record Chosen (Fact : Field → Type 0) (E : Field) (x floor : ℕ) (spans : List Span) : Type 0 where
  pub rows : ℕ → ℕ
  pub rises : Rises rows (length spans)
  pub above : (k : ℕ) → k < length spans → floor ≤ rows k
  pub within : IsWithin E x rows spans
  pub rest : Fact (without_stack E x rows spans)

-- a list of columns that has some column passes where all of them pass
pub in_columns : (columns : List ℕ) (x a : ℕ) (test : ℕ → Bool) → list_all (λ c. test (x + c)) columns ≡ true → list_any (λ c. x + c == a) columns ≡ true → test a ≡ true
in_columns [] x a test all some = absurd (false≢true some)
in_columns (c ∷ columns) x a test all some =
    search (rules, and_parts, or_cases, eqb-true, (in_columns columns x a test))

pub all_columns : (columns : List ℕ) (x : ℕ) (test : ℕ → Bool) → ((a : ℕ) → list_any (λ c. x + c == a) columns ≡ true → test a ≡ true) → list_all (λ c. test (x + c)) columns ≡ true
all_columns [] x test each = refl
all_columns (c ∷ columns) x test each =
    search (rules, and_from, or_left, eq-eqb, or_right, (all_columns columns x test))

-- each span has a column
pub some_column : (span : Span) → (c : ℕ) × (list_any (λ column. column == c) (columns_of span) ≡ true)
some_column First = (0, refl)
some_column Second = (1, refl)
some_column Third = (2, refl)
some_column FirstTwo = (0, refl)
some_column SecondTwo = (1, refl)
some_column FirstThree = (0, refl)
some_column AllFour = (0, refl)

moved_column : (columns : List ℕ) (x c : ℕ) → list_any (λ column. column == c) columns ≡ true → list_any (λ column. x + column == x + c) columns ≡ true
moved_column columns x c some = search (rules, or_cases, or_left, eq-eqb, eqb-true, or_right)

-- where all columns of a span are cells of a set, one of them is
pub some_in_span : (E : Field) (x : ℕ) (span : Span) (row : ℕ) → has_span E x span row ≡ true → (a : ℕ) × (E a row ≡ true)
unfolding has_span
some_in_span E x span row has = search (rules, some_column, in_columns, moved_column)

-- a cell of the spans is in one of their rows
pub row_of : (x : ℕ) (rows : ℕ → ℕ) (spans : List Span) (a b : ℕ) → in_stack x rows spans a b ≡ true → (k : ℕ) × (k < length spans) × (rows k ≡ b)
unfolding in_stack
row_of x rows [] a b here = absurd (false≢true here)
row_of x rows (span ∷ spans) a b here =
    search (rules, or_cases, eqb-true, and_parts, (row_of x (λ k. rows (suc k)) spans a b))

pub apart : (p q r : Bool) → ((p && not q) && not r) ≡ (p && not (q || r))
apart p q r = search rules

-- to take spans away one by one is to take all away
pub without_each : (E : Field) (x : ℕ) (rows : ℕ → ℕ) (span : Span) (spans : List Span) →
    without_stack (without_span E x span (rows 0)) x (λ k. rows (suc k)) spans ≡ without_stack E x rows (span ∷ spans)
unfolding without_stack without_span in_stack
without_each E x rows span spans = fun_ext (λ a. fun_ext (λ b. apart (E a b) (list_any (λ column. x + column == a) (columns_of span) && (rows 0 == b)) (in_stack x (λ k. rows (suc k)) spans a b)))

pub without_none : (E : Field) (x : ℕ) (rows : ℕ → ℕ) → without_stack E x rows [] ≡ E
unfolding without_stack in_stack
without_none E x rows = fun_ext (λ a. fun_ext (λ b. and-true (E a b)))

-- a row below other rows
abbrev pub first_then : ℕ → (ℕ → ℕ) → ℕ → ℕ
first_then row rows zero = row
first_then row rows (suc k) = rows k
