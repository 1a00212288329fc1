-- The columns counted from there are those of the set inside. Both have a tiling, or none has.
use Rattle.std.proofs.Common.{◌↔◌, ◌⊎◌, Bool, IsTrue, subst, sym, inl, inr}
use Rattle.std.proofs.lemmas.Bool.{both_ways}
use Rattle.lane_board.specs.Field.{Field}
use Rattle.prune.specs.Tiling.{Supply}
use Rattle.empty_cells.specs.declared.shifted.Shifted.{Shifted}
use Rattle.empty_cells.specs.Empties.{empty_cells}
use Rattle.empty_cells.specs.Refusals.{HasUnevenStart, HasWrongParity}
use Rattle.empty_cells.specs.ShiftedCells.{shifted_cells}
use Rattle.empty_cells.specs.Spans.{from_column}
use Rattle.empty_cells.specs.SupplyWords.{supply_of}
use Rattle.empty_cells.proofs.ShiftedLemmas.{back_from, tiled_there}
use Rattle.empty_cells.proofs.shifted.Shifted.is_refused.Goals as goal

abbrev IsEither : Bool → Field → Supply → Type 0
IsEither t E supply = IsTrue t ↔ (HasUnevenStart E ⊎ HasWrongParity E supply)

inside : (s : Shifted) (supply : Supply) (t : Bool) → IsEither t (empty_cells s.cells) supply → IsEither t (from_column s.x (shifted_cells s)) supply
inside s supply t = subst (λ (E : Field). IsEither t E supply) (sym (back_from s.x (empty_cells s.cells)))

pub returns-then-has_uneven_start-clause-exact : goal.returns-then-has_uneven_start-clause-exact
returns-then-has_uneven_start-clause-exact c = inside c.args.self.now (supply_of c.args.supply) _ (
  λ t. inl (c.has_uneven_start.ensures.exact.0 t),
  λ _. c.if-has_uneven_start.true,
)

pub returns-then-has_uneven_start-clause-none : goal.returns-then-has_uneven_start-clause-none
returns-then-has_uneven_start-clause-none c = λ refused tiling. c.has_uneven_start.ensures.none refused (supply_of c.args.supply) ((tiled_there c.args.self.now (supply_of c.args.supply)).1 tiling)

pub returns-else-has_uneven_start-clause-exact : goal.returns-else-has_uneven_start-clause-exact
returns-else-has_uneven_start-clause-exact c = inside c.args.self.now (supply_of c.args.supply) _ (
  λ t. inr (c.has_wrong_parity.ensures.exact.0 t),
  λ either. elim either [
    | inl start ↦ absurd (both_ways _ c.if-has_uneven_start.false (c.has_uneven_start.ensures.exact.1 start))
    | inr wrong ↦ c.has_wrong_parity.ensures.exact.1 wrong
  ],
)

pub returns-else-has_uneven_start-clause-none : goal.returns-else-has_uneven_start-clause-none
returns-else-has_uneven_start-clause-none c = λ refused tiling. c.has_wrong_parity.ensures.none refused ((tiled_there c.args.self.now (supply_of c.args.supply)).1 tiling)
