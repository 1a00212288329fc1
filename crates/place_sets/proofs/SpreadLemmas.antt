-- How a set of pivots spreads: each new pivot comes from one beside it, and at the end none is missing.
use Rattle.std.proofs.Common.{◌≡◌, ℕ, zero, suc, ◌*◌, ◌-◌, ◌<◌, true, sym, ap, subst, ◌∙◌, ◌⊎◌, rules}
use Rattle.std.proofs.lemmas.Bool.{and_parts, and_from, or_cases, or_left, or_right, cases_lt}
use Rattle.lane_board.specs.Field.{Field, intersection, union}
use Rattle.lane_board.specs.CellCount.{cell_count}
use Rattle.lane_board.proofs.CallerLemmas.{cell_count-le}
use Rattle.place_sets.specs.declared.spreading.Shifts.{Shifts}
use Rattle.place_sets.specs.Shifts.{neighbours, widened, widened_by, IsSpread}
use Rattle.place_sets.proofs.FieldLemmas.{LiesWithin, IsWithin, fields-same}

-- the field before is within the wider one
pub widened-has : (shifts : Shifts) (N : ℕ) (free S : Field) → IsWithin S (widened shifts N free S)
unfolding widened union
widened-has shifts N free S = record { has = λ x y filled. or_left _ _ filled }

pub widened_by-has : (rounds : ℕ) (shifts : Shifts) (N : ℕ) (free S : Field) → IsWithin S (widened_by rounds shifts N free S)
unfolding widened_by
widened_by-has zero shifts N free S = record { has = λ x y filled. filled }
widened_by-has (suc rounds) shifts N free S = search (rules, (widened-has shifts N free (widened_by rounds shifts N free S)), (widened_by-has rounds shifts N free S))

pub spread-has : (shifts : Shifts) (N : ℕ) (free S result : Field) → IsSpread shifts N free S result → IsWithin S result
spread-has shifts N free S result spread = record { has = λ x y filled. subst (λ (F : Field). F x y ≡ true) (sym spread.grown) ((widened_by-has spread.rounds shifts N free S).has x y filled) }

-- a pivot that is free, beside one of the set, is in the set when nothing is missing
pub still-has : (shifts : Shifts) (N : ℕ) (free S result : Field) → IsSpread shifts N free S result → (x y : ℕ) → free x y ≡ true → neighbours shifts N result x y ≡ true → result x y ≡ true
unfolding widened union intersection
still-has shifts N free S result spread x y is_free beside = sym (ap (λ (F : Field). F x y) spread.still) ∙ or_right _ _ (and_from _ _ is_free beside)

-- a wider set has what was there, and free pivots beside it
pub widened-from : (shifts : Shifts) (N : ℕ) (free S : Field) (x y : ℕ) → widened shifts N free S x y ≡ true → (S x y ≡ true) ⊎ ((free x y ≡ true) × (neighbours shifts N S x y ≡ true))
unfolding widened union intersection
widened-from shifts N free S x y wide = search (rules, or_cases, and_parts)

-- fewer pivots are missing after a round, but for the last
pub widened-fewer : (shifts : Shifts) (N : ℕ) (free S wider : Field) → wider ≡ widened shifts N free S → LiesWithin wider N → (wider ≡ S → ⊥) → 10 * N - cell_count wider N < 10 * N - cell_count S N
widened-fewer shifts N free S wider is lies differ =
    search (rules, (widened-has shifts N free S), (cases_lt (cell_count S N) (cell_count wider N)), (cell_count-le wider N), (fields-same S wider))
