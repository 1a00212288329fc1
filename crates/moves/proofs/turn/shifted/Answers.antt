-- One pivot is tried.
use Rattle.moves.specs.Step.{shifted}
use Rattle.moves.proofs.turn.shifted.Goals as goal

pub returns : goal.returns
unfolding shifted
returns c = c.free_at.ensures
