use Rattle.std.proofs.Common.{ap}
use Rattle.tails.specs.MadeStates.{end_state}
use Rattle.tails.proofs.states.State.ended.Goals as goal

pub returns : goal.returns
unfolding end_state
returns c = ap end_state c.elements.ensures.number
