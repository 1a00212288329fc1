-- Each sequence that clears the field of a fit problem has as many placements as are needed.
use Rattle.std.proofs.Common.{◌≡◌, ℕ, zero, suc, ◌+◌, ◌-◌, ◌*◌, ◌%◌, ◌≤◌, Bool, false, List, [], ◌∷◌, length, refl, ap, ◌∙◌, inl, inr, arith}
use Rattle.std.proofs.lemmas.Bool.{cases_lt}
use Rattle.lane_board.specs.Field.{Field}
use Rattle.lane_board.specs.CellCount.{cell_count, row_count}
use Rattle.srs.specs.declared.placement.Placement.{Placement}
use Rattle.srs.specs.Kick.{Table}
use Rattle.srs.specs.Rules.{table_of}
use Rattle.well.specs.Well.{filled}
use Rattle.well.specs.Lock.{locked, rows_removed}
use Rattle.moves.specs.declared.key.DropMode.{DropMode}
use Rattle.problem.specs.declared.problem.Problem.{Problem}
use Rattle.problem.specs.Plays.{Plays}
use Rattle.problem.specs.Problem.{IsFit, empties_of, needed_of}
use Rattle.problem.specs.Solution.{PlaysIn}
use Rattle.problem.proofs.Game.{IsLow, filled-low, locked-count, locked-low, removed-within}
use Rattle.moves.proofs.CallerLemmas.{place-free}

no_row : (y : ℕ) → row_count (λ x y. false) y ≡ 0
unfolding row_count
no_row y = refl

row-empty : (F : Field) (y : ℕ) → ((x : ℕ) → F x y ≡ false) → row_count F y ≡ 0
unfolding row_count
row-empty F y none =
    let same : ◌≡◌ {A = ℕ → Bool} (λ x. F x y) (λ x. false) = λ i x. none x i in
    ap (λ f. row_count (λ x y. f x) y) same ∙ no_row y

count-low : (F : Field) (rows n : ℕ) → ((x y : ℕ) → rows ≤ y → F x y ≡ false) → rows ≤ n → cell_count F n ≡ cell_count F rows
unfolding cell_count
count-low F zero zero none within = refl
count-low F (suc rows) zero none within = absurd (omega arith)
count-low F rows (suc n) none within = elim (cases_lt n rows) [
  | inl last ↦ let same : suc n ≡ rows = omega arith in ap (cell_count F) same
  | inr more ↦ let row = row-empty F n (λ x. none x n more) in let rest = count-low F rows n none more in omega (arith, row, rest)
]

plays-count : (table : Table) (mode : DropMode) (F : Field) (rows : ℕ) (s : List Placement) → IsLow F rows → Plays table mode F rows s → 10 * rows ≡ cell_count F 23 + 4 * length s
unfolding cell_count
plays-count table mode F rows [] low plays =
    let none : cell_count F 23 ≡ cell_count F 0 = count-low F 0 23 (λ x y _. plays.1 x y) (omega arith) in
    omega (arith, none, plays.0)
plays-count table mode F rows (q ∷ s) low plays =
    let free = place-free table F mode q plays.0 in
    let rest = plays-count table mode (locked F q) (rows - rows_removed F q) s (locked-low F rows q low plays.1 free) plays.2 in
    omega (arith, rest, locked-count F q free, removed-within F rows q low plays.1)

empties-filled : (problem : Problem) → IsFit problem → (s : List Placement) → PlaysIn problem s → empties_of problem ≡ 4 * length s
empties-filled problem fit s plays =
    let low = filled-low problem.well problem.height (omega (arith, fit.field.fit.low)) fit.field.below in
    let whole = plays-count (table_of problem.rules) problem.drop_mode (filled problem.well) problem.height s low plays in
    let same = count-low (filled problem.well) problem.height 23 low.none (omega (arith, fit.field.fit.low)) in
    omega (arith, whole, same)

pub long-needed : (problem : Problem) → IsFit problem → (s : List Placement) → PlaysIn problem s → length s ≡ needed_of problem
long-needed problem fit s plays = omega (arith, empties-filled problem fit s plays)

-- so the empty cells are a multiple of four
pub needed-exact : (problem : Problem) → IsFit problem → (s : List Placement) → PlaysIn problem s → empties_of problem % 4 ≡ 0
needed-exact problem fit s plays = omega (arith, empties-filled problem fit s plays)

pub needed-few : (problem : Problem) → IsFit problem → needed_of problem ≤ 20
needed-few problem fit = omega (arith, fit.field.fit.low)
