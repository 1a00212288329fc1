-- The span lies in column 0 of the set.
use Rattle.std.proofs.Common.{ap, sym, ◌∙◌, rules}
use Rattle.lane_board.specs.Field.{Field}
use Rattle.empty_cells.specs.Empties.{empty_cells}
use Rattle.empty_cells.proofs.ChosenLemmas.{was_there}
use Rattle.empty_cells.proofs.ShiftedLemmas.{without_there}
use Rattle.empty_cells.proofs.shifted.Shifted.without_span.Goals as goal

pub invariant_of-result : goal.invariant_of-result
invariant_of-result c = let s = c.args.self.now in
    record {
      column = s.column;
      within = λ a b here. s.within a b (was_there (empty_cells s.cells) 0 c.args.span c.args.y a b (ap (λ (E : Field). E a b) (sym c.without_span.ensures) ∙ here));
    }

pub returns-clause-cells : goal.returns-clause-cells
returns-clause-cells c = search (rules, without_there)
