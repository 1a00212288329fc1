-- The columns before the first cell have none.
use Rattle.std.proofs.Common.{◌≡◌, ℕ, ◌+◌, ◌≤◌, true, sym, ap, ◌∙◌, arith}
use Rattle.lane_board.specs.Field.{Field}
use Rattle.empty_cells.specs.Empties.{empty_cells}
use Rattle.empty_cells.specs.ShiftedCells.{to_column}
use Rattle.empty_cells.specs.Spans.{from_column}
use Rattle.empty_cells.proofs.ShiftedLemmas.{counted_from, first_there, none_there}
use Rattle.empty_cells.proofs.shifted.Shifted.from_first.Goals as goal

pub returns-in_default : goal.returns-in_default
returns-in_default c = none_there c.args.self.now.x (empty_cells c.args.self.now.cells) c.in_default.ensures

further : (E : Field) (x d : ℕ) → ((a b : ℕ) → E a b ≡ true → x + a ≤ 9) → (a b : ℕ) → from_column d E a b ≡ true → x + d + a ≤ 9
unfolding from_column
further E x d within a b here = omega (arith, within (d + a) b here)

pub invariant_of-first : goal.invariant_of-first
invariant_of-first c = let s = c.args.self.now in
    record {
      column = s.within c.in-Some.x c.in-Some.y c.in-Some.ensures.filled;
      within = λ a b here. further (empty_cells s.cells) s.x c.in-Some.x s.within a b (ap (λ (E : Field). E a b) (sym c.from_column.ensures) ∙ here);
    }

pub returns : goal.returns
returns c = let s = c.args.self.now in (
  ap (λ (E : Field). to_column (s.x + c.in-Some.x) E) c.from_column.ensures ∙ counted_from s.x (empty_cells s.cells) c.in-Some.x c.in-Some.y c.in-Some.ensures,
  first_there s.x (empty_cells s.cells) c.in-Some.x c.in-Some.y s.within c.in-Some.ensures,
)
