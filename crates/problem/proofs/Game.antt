-- The laws of the game that solutions need, of the crates below.
use Rattle.std.proofs.Common.{◌≡◌, ℕ, ◌+◌, ◌-◌, ◌*◌, ◌≤◌, Bool, true, false, ◌&&◌, ◌||◌, List, [], ◌∷◌, refl, sym, ap, subst, ◌∙◌, inl, inr, arith, le-leb}
use Rattle.std.specs.Prelude.{None, Some, Contains, find, nat_le}
use Rattle.std.specs.List.{list_any, range_with_len}
use Rattle.std.proofs.lemmas.Bool.{cases_Bool}
use Rattle.lane_board.specs.Field.{Field}
use Rattle.lane_board.specs.FullRows.{columns}
use Rattle.lane_board.specs.CellCount.{cell_count}
use Rattle.srs.specs.declared.placement.Placement.{Placement}
use Rattle.srs.proofs.CallerLemmas.{Contains-cases, Contains-none, Contains-range, find-false, find-true}
use Rattle.well.specs.declared.well.Well.{Well}
use Rattle.well.specs.Well.{filled}
use Rattle.well.specs.Free.{is_free}
use Rattle.well.specs.Lock.{locked, rows_removed}
use Rattle.well.specs.LockLaws.{LiesBelow, is_below}
use Rattle.well.specs.Counts.{is_filled_row, lowest_filled_from, rows}
use Rattle.well.proofs.CallerLemmas.{adds_four_cells, removes_below, stays_below, filled-within}

-- a field of the well has no cell in a row or above
pub record IsLow (F : Field) (rows : ℕ) : Type 0 where
  pub none : (x y : ℕ) → rows ≤ y → F x y ≡ false
  pub within : rows ≤ 23

-- ---- where the lowest row with a cell is not found

not_found : (test : ℕ → Bool) (xs : List ℕ) → find test xs ≡ None → (y : ℕ) → Contains xs y → test y ≡ false
not_found test [] e y among = absurd (Contains-none y among)
not_found test (x ∷ xs) e y among = elim (cases_Bool (test x)) [
  | inl passes ↦ let found : Some x ≡ None = sym (find-true test x xs passes) ∙ e in cc
  | inr fails ↦ elim (Contains-cases x xs y among) [
    | inl here ↦ subst (λ z. test z ≡ false) here fails
    | inr there ↦ not_found test xs (sym (find-false test x xs fails) ∙ e) y there
  ]
]

none_of : (test : ℕ → Bool) (xs : List ℕ) → list_any test xs ≡ false → (x : ℕ) → Contains xs x → test x ≡ false
none_of test [] e x among = absurd (Contains-none x among)
none_of test (z ∷ xs) e x among = elim (cases_Bool (test z)) [
  | inl passes ↦ let some : (test z || list_any test xs) ≡ true = ap (λ b. b || list_any test xs) passes in cc
  | inr fails ↦ elim (Contains-cases z xs x among) [
    | inl here ↦ subst (λ z. test z ≡ false) here fails
    | inr there ↦ none_of test xs (sym (ap (λ b. b || list_any test xs) fails) ∙ e) x there
  ]
]

second_false : (a b : Bool) → a ≡ true → (a && b) ≡ false → b ≡ false
second_false true b t e = e
second_false false b t e = cc

columns-range : columns ≡ range_with_len 0 10
columns-range = refl

pub filled-low : (well : Well) (height : ℕ) → height ≤ 23 → lowest_filled_from (filled well) height ≡ None → IsLow (filled well) height
unfolding lowest_filled_from is_filled_row
filled-low well height within none = record { none = empty; within = within }
  where
    empty : (x y : ℕ) → height ≤ y → filled well x y ≡ false
    empty x y above = elim (cases_Bool (filled well x y)) [
      | inl is ↦
          let place = filled-within well x y is in
          let row : list_any (λ x. filled well x y) columns ≡ false =
          second_false (nat_le height y) (list_any (λ x. filled well x y) columns) (le-leb height y above)
          (not_found (λ y. nat_le height y && list_any (λ x. filled well x y) columns) rows none y (Contains-range 0 23 y (omega arith) (omega (arith, place.1)))) in
          none_of (λ x. filled well x y) columns row x (subst (λ l. Contains l x) (sym columns-range) (Contains-range 0 10 x (omega arith) (omega (arith, place.0))))
      | inr e ↦ e
    ]

-- ---- locking

below : (F : Field) (height : ℕ) → IsLow F height → LiesBelow F height
below F height low = record { none = low.none }

pub locked-low : (F : Field) (height : ℕ) (q : Placement) → IsLow F height → is_below height q ≡ true → is_free F q ≡ true → IsLow (locked F q) (height - rows_removed F q)
locked-low F height q low placed free = record {
  none = λ x y above. stays_below F q height low.within (below F height low) placed x y (omega arith);
  within = omega (arith, low.within);
}

-- four cells come, and ten go with each row
pub locked-count : (F : Field) (q : Placement) → is_free F q ≡ true → cell_count (locked F q) 23 + 10 * rows_removed F q ≡ cell_count F 23 + 4
locked-count F q free = adds_four_cells F q free

-- no more rows go than are left
pub removed-within : (F : Field) (height : ℕ) (q : Placement) → IsLow F height → is_below height q ≡ true → rows_removed F q ≤ height
removed-within F height q low placed = removes_below F q height low.within (below F height low) placed
