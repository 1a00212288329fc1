-- The question is the same, so its answer is right.
use Rattle.std.proofs.Common.{◌≡◌, ◌↔◌, true, subst}
use Rattle.lane_board.specs.Field.{Field}
use Rattle.prune.specs.Tiling.{Tiling}
use Rattle.empty_cells.specs.declared.supply.SupplyWord.{SupplyWord}
use Rattle.empty_cells.specs.Empties.{all_but, empty_cells}
use Rattle.empty_cells.specs.SupplyWords.{supply_of}
use Rattle.empty_cells.proofs.CallerLemmas.{right-from_answer}
use Rattle.packing.proofs.decided.Decided.answer_to.Goals as goal

pub returns-then-is_equal-2 : goal.returns-then-is_equal-2
returns-then-is_equal-2 c =
    let kept = c.args.self.now in
    subst (λ (supply : SupplyWord). (kept.answer ≡ true) ↔ Tiling (all_but (empty_cells c.args.cells.now)) 8 (supply_of supply)) (c.is_equal-then-is_equal.ensures.0 c.if-is_equal-2.true)
    (subst (λ (E : Field). (kept.answer ≡ true) ↔ Tiling (all_but E) 8 (supply_of kept.supply)) (c.is_equal.ensures.0 c.if-is_equal.true)
    (right-from_answer kept.answer (all_but (empty_cells kept.cells)) 8 (supply_of kept.supply) kept.holds))
