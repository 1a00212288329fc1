-- A walk over the columns finds an uneven part where there is one.
use Rattle.std.proofs.Common.{◌≡◌, ◌≢◌, ℕ, zero, suc, ◌+◌, ◌-◌, ◌*◌, ◌%◌, ◌≤◌, refl, ap, ◌∙◌, arith, rules}
use Rattle.std.specs.Prelude.{sum_by}
use Rattle.std.specs.List.{range_with_len}
use Rattle.std.proofs.lemmas.Bool.{cases_eq}
use Rattle.std.proofs.lemmas.List.Sums.{sum_by_push}
use Rattle.lane_board.specs.Field.{Field}
use Rattle.prune.specs.Counts.{column_empties, run_empties}
use Rattle.prune.specs.Walls.{IsWall, HasUnevenPart}
use Rattle.prune.proofs.ColumnCounts.{range_more, column_empties-le}

-- how many cells of so many neighbouring columns are empty
abbrev pub empties_in : Field → ℕ → ℕ → ℕ → ℕ
empties_in F rows first n = sum_by (column_empties F rows) (range_with_len first n)

in-suc : (F : Field) (rows first n : ℕ) → empties_in F rows first (suc n) ≡ empties_in F rows first n + column_empties F rows (first + n)
in-suc F rows first n = ap (sum_by (column_empties F rows)) (range_more first n) ∙ sum_by_push (column_empties F rows) (range_with_len first n) (first + n)

in-both : (F : Field) (rows first n : ℕ) → empties_in F rows 0 (first + n) ≡ empties_in F rows 0 first + empties_in F rows first n
in-both F rows first zero = ap (λ k. empties_in F rows 0 k) {x = first + 0} {y = first} (omega arith) ∙ omega arith
in-both F rows first (suc n) =
    let more : first + suc n ≡ suc (first + n) = omega arith in
    search (rules, (in-suc F rows 0 (first + n)), (in-both F rows first n), (in-suc F rows first n))

-- after the columns before x: they have so many empty cells, and at each wall so far a multiple of four stands before it
pub record Parts (F : Field) (rows x count : ℕ) : Type 0 where
  pub counted : count ≡ empties_in F rows 0 x
  pub even : (wall : ℕ) → wall ≤ x → IsWall F rows wall → empties_in F rows 0 wall % 4 ≡ 0
  pub small : count ≤ 8 * x

pub parts-start : (F : Field) (rows : ℕ) → Parts F rows 0 0
parts-start F rows = record { counted = refl; even = λ wall low _. ap (λ n. empties_in F rows 0 n % 4) {x = wall} {y = 0} (omega arith); small = omega arith }

-- one column more, behind which stands no wall, or a multiple of four before it
pub parts-next : (F : Field) (rows x count empties : ℕ) → rows ≤ 8 → empties ≡ column_empties F rows x → ((count + empties) % 4 ≢ 0 → IsWall F rows (x + 1) → ⊥) → Parts F rows x count → Parts F rows (x + 1) (count + empties)
parts-next F rows x count empties low here closed p = search (rules, cases_eq, column_empties-le, in-suc)

pub parts-found : (F : Field) (rows x count empties : ℕ) → x ≤ 9 → empties ≡ column_empties F rows x → (count + empties) % 4 ≢ 0 → IsWall F rows (x + 1) → Parts F rows x count → HasUnevenPart F rows
unfolding run_empties
parts-found F rows x count empties within here uneven is p = record {
  first = 0;
  last = x;
  order = omega arith;
  within = within;
  left = record { apart = λ some _ y below before at. absurd (omega arith) };
  right = is;
  uneven = search (rules, in-suc);
}

-- at the end there is none
pub parts-none : (F : Field) (rows x count : ℕ) → 10 ≤ x → Parts F rows x count → HasUnevenPart F rows → ⊥
unfolding run_empties
parts-none F rows x count end p u = search (rules, u.uneven, (in-both F rows u.first (u.last + 1 - u.first)), (p.even u.first), (p.even (u.last + 1)))
