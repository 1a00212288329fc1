-- A right answer is that of the test.
use Rattle.empty_cells.proofs.CallerLemmas.{answer-from_right}
use Rattle.packing.proofs.decided.Decided.new.Goals as goal

pub invariant_of-result : goal.invariant_of-result
invariant_of-result c = record { holds = answer-from_right _ _ _ _ c.requires }
