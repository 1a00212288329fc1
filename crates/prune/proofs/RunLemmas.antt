-- A walk over the columns finds an uneven run where there is one.
use Rattle.std.proofs.Common.{◌≡◌, ◌≢◌, ◌⊎◌, ℕ, ◌+◌, ◌-◌, ◌*◌, ◌%◌, ◌<◌, ◌≤◌, not, ◌==◌, Decides, ap, ◌∙◌, inl, inr, arith, rules}
use Rattle.std.specs.Prelude.{sum_by}
use Rattle.std.specs.List.{range_with_len}
use Rattle.std.proofs.lemmas.Bool.{cases_lt, cases_order, eqb-true, eq-eqb, not_from_false, false_from_ne_true, false≢true}
use Rattle.std.proofs.lemmas.List.Sums.{sum_by_push}
use Rattle.lane_board.specs.Field.{Field}
use Rattle.prune.specs.Counts.{column_empties, IsRun, run_empties, HasUnevenRun}
use Rattle.prune.proofs.ColumnCounts.{range_more, column_empties-le}

-- after the columns below x: the run that ends before column x, which may have no column, has so many empty cells, and each
-- run before it has a multiple of four
pub record Runs (F : Field) (rows x run : ℕ) : Type 0 where
  pub first : ℕ
  pub start : first ≤ x
  pub opened : (c : ℕ) → first ≤ c → c < x → 0 < column_empties F rows c
  pub left_end : (c : ℕ) → c + 1 ≡ first → column_empties F rows c ≡ 0
  pub counted : run ≡ sum_by (column_empties F rows) (range_with_len first (x - first))
  pub even : (a b : ℕ) → b < first → IsRun F rows a b → run_empties F rows a b % 4 ≡ 0
  pub small : run ≤ 8 * x

pub starts : (F : Field) (rows : ℕ) → Runs F rows 0 0
starts F rows = search rules

pub goes_on : (F : Field) (rows x run empties : ℕ) → rows ≤ 8 → empties ≡ column_empties F rows x → 0 < empties → Runs F rows x run → Runs F rows (x + 1) (run + empties)
goes_on F rows x run empties low here some r = search (rules, cases_order, column_empties-le, opened, counted)
  where
    opened : (c : ℕ) → r.first ≤ c → (c ≡ x) ⊎ ((c < x) ⊎ (x < c)) → c < x + 1 → 0 < column_empties F rows c
    opened c above h2 below = search rules

    counted : run + empties ≡ sum_by (column_empties F rows) (range_with_len r.first (x + 1 - r.first))
    counted = search (rules, range_more, sum_by_push)

-- the run that ends before column x, where it has a column
last_run : (F : Field) (rows x run : ℕ) → x ≤ 10 → (x < 10 → column_empties F rows x ≡ 0) → (r : Runs F rows x run) → r.first < x → IsRun F rows r.first (x - 1)
last_run F rows x run within closed r some = search rules

last_count : (F : Field) (rows x run : ℕ) (r : Runs F rows x run) → r.first < x → run_empties F rows r.first (x - 1) ≡ run
unfolding run_empties
last_count F rows x run r some = search rules

pub finds : (F : Field) (rows x run : ℕ) → x ≤ 10 → (x < 10 → column_empties F rows x ≡ 0) → Runs F rows x run → run % 4 ≢ 0 → HasUnevenRun F rows
finds F rows x run within closed r uneven = search (rules, (cases_lt r.first x), (last_run F rows x run within closed r), (last_count F rows x run r))

-- a run that begins no later than column x, where this one has no empty cell, is an earlier one or the last one
even_below : (F : Field) (rows x run : ℕ) → x ≤ 10 → (x < 10 → column_empties F rows x ≡ 0) → Runs F rows x run → run % 4 ≡ 0 → (a b : ℕ) → b < x → IsRun F rows a b → run_empties F rows a b % 4 ≡ 0
even_below F rows x run within closed r even a b below is = at (cases_lt b r.first)
  where
    at : (b < r.first) ⊎ (r.first ≤ b) → run_empties F rows a b % 4 ≡ 0
    at (inl before) = r.even a b before is
    at (inr from) =
        let order = is.order in
        let begins : a ≡ r.first = begin (cases_order a r.first) in
        let ends : b ≡ x - 1 = end (cases_lt (b + 1) x) in
        ap (λ a. run_empties F rows a b % 4) begins ∙ ap (λ b. run_empties F rows r.first b % 4) ends ∙ ap (λ n. n % 4) (last_count F rows x run r (omega arith)) ∙ even
      where
        begin : (a ≡ r.first) ⊎ ((a < r.first) ⊎ (r.first < a)) → a ≡ r.first
        begin (inl same) = same
        begin (inr (inl before)) = absurd (omega (arith, r.left_end (r.first - 1) (omega arith), is.opened (r.first - 1) (omega arith) (omega arith)))
        begin (inr (inr after)) = let order = is.order in absurd (omega (arith, is.left_end (a - 1) (omega arith), r.opened (a - 1) (omega arith) (omega arith)))

        end : (b + 1 < x) ⊎ (x ≤ b + 1) → b ≡ x - 1
        end h0 = search rules

pub stops : (F : Field) (rows x run : ℕ) → x < 10 → column_empties F rows x ≡ 0 → run % 4 ≡ 0 → Runs F rows x run → Runs F rows (x + 1) 0
stops F rows x run within closed even r = search (rules, cases_order, even_below)

-- at the end there is an uneven run exactly where the last one is
pub ends : (F : Field) (rows x run : ℕ) → 10 ≤ x → x ≤ 10 → Runs F rows x run → Decides (not (run % 4 == 0)) (HasUnevenRun F rows)
ends F rows x run low high r = search (rules, (finds F rows x run high), false≢true, eq-eqb, not_from_false, false_from_ne_true, (even_below F rows x run high), eqb-true)
